-- Where a byte stands first.
use Rattle.std.specs.Prelude.{ℕ, ◌+◌, ◌==◌, List, length, drop, position, unwrap_or}

-- the place of the first b from `at` on, or the end
unfoldable pub first_from : List ℕ → ℕ → ℕ → ℕ
first_from block at b = at + unwrap_or (position (λ x. x == b) (drop at block)) (length (drop at block))
