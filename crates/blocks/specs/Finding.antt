-- Which block of a store is taken.
use Rattle.std.specs.Prelude.{ℕ, Option, Some, None, zero, suc, ◌-◌, Bool, not, ◌&&◌, List, ◌==◌, nat_lt}
use Rattle.words.specs.Choice.{pick}
use Rattle.blocks.specs.declared.Search.{Search}
use Rattle.blocks.specs.declared.Search.TheVariants.{Newest, Named, Oldest, Unsound}
use Rattle.blocks.specs.Blocks.{count, version, is_sound}

-- block k is of the kind that is sought
unfoldable pub fits : List ℕ → Search → ℕ → Bool
fits b Newest k = is_sound b k
fits b (Named v) k = is_sound b k && version b k == v
fits b Oldest k = is_sound b k
fits b Unsound k = not (is_sound b k)

-- of these the one of the greatest rank: the greatest version for the newest, the smallest for the oldest, else any
unfoldable pub rank : List ℕ → Search → ℕ → ℕ
rank b Newest k = version b k
rank b (Named v) k = 0
rank b Oldest k = 0xffffffff - version b k
rank b Unsound k = 0

-- what is found so far, and block k behind it: the first among equals stays
unfoldable pub better : List ℕ → Search → Option ℕ → ℕ → Option ℕ
better b w None k = pick (fits b w k) (Some k) None
better b w (Some j) k = pick (fits b w k && nat_lt (rank b w j) (rank b w k)) (Some k) (Some j)

-- among the first n blocks
unfoldable pub found_below : List ℕ → Search → ℕ → Option ℕ
found_below b w zero = None
found_below b w (suc n) = better b w (found_below b w n) n

-- in the store; nothing is found in bytes of another length
unfoldable pub found : List ℕ → Search → Option ℕ
found b w = found_below b w (count b)
