-- The whole number nearest to a float's value, halves upward. The value is exact, m * 2 ^ e as the fraction
-- m * up e / down e of whole numbers: nothing here is a float operation.
use Rattle.std.specs.Prelude.{ℕ, ◌+◌, ◌*◌, ◌/◌, Bool, true, false, leb, Option, Some, None, Float}
use Rattle.std.specs.Float.{nan, inf, fin}
use Rattle.std.specs.Float.Ieee.{up, down}
use Rattle.words.specs.Choice.{pick}

-- a / c to the nearest whole number: one half is added, and what is left of a whole is cut off
unfoldable pub half_up : ℕ → ℕ → ℕ
half_up a c = (2 * a + c) / (2 * c)

-- a count is 0 to $7FFF
abbrev pub in_count : ℕ → Option ℕ
in_count k = pick (leb k 0x7fff) (Some k) None

-- of a / c, and where the sign is set of -a / c: down to -1/2 the nearest is 0, further down it is below 0
abbrev pub counted : Bool → ℕ → ℕ → Option ℕ
counted false a c = in_count (half_up a c)
counted true a c = pick (leb (2 * a) c) (Some 0) None

-- what is no number, or infinite, has none
unfoldable pub count_of : Float → Option ℕ
unfolding half_up
count_of nan = None
count_of (inf s) = None
count_of (fin s m e) = counted s (m * up e) (down e)
