-- Where a byte is looked for.
use Prim.Native.Nat.{ℕ, ◌≤◌}
use mathlib.Core.List.{List}
use native.Mathlib.Omega.{arith}
use Rattle.text.specs.Finding.{first_from}

-- it is found no earlier
pub found_from : (block : List ℕ) (i b : ℕ) → i ≤ first_from block i b
unfolding first_from
found_from block i b = omega arith
