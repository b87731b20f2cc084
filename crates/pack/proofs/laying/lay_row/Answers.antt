use native.Mathlib.Omega.{arith}
use mathlib.Core.Path.{◌≡◌}
use Prim.Native.Nat.{◌+◌, ◌-◌}
use lib.ListN.{length}
use Rattle.pack.specs.Packing.{row_laid}
use Rattle.pack.proofs.laying.lay_row.Goals as goal

pub returns : goal.returns
unfolding row_laid
returns c =
    let a = c.args in
    let e : a.at + length a.row.now - a.at ≡ length a.row.now = omega arith in
    rw (e, c.copy_from_slice.ensures.after)
