use borrow.Author.Rules.{rules}
use mathlib.Core.Path.{◌≡◌, refl}
use Prim.Native.Nat.{◌<◌}
use native.Mathlib.Omega.{arith}
use lib.ListN.{length, length-set}
use Rattle.pack.specs.Packing.{tabulate}
use Rattle.pack.proofs.Tabled.{next, whole}
use Rattle.pack.proofs.reading.channels_in.Goals as goal

pub loop-i-init : goal.loop-i-init
unfolding tabulate
loop-i-init c = (omega arith, search rules, refl, refl)

pub loop-i-preserved : goal.loop-i-preserved
loop-i-preserved c =
    let l = c.loop-i in
    let h : l.i < length l.w = omega arith in
    (omega arith, l.invariant.1, simp length-set l.invariant.2, next _ l.w l.i _ h l.invariant.3 c.latches_in.ensures)

pub returns : goal.returns
returns c =
    let l = c.loop-i in
    let e : l.i ≡ 16 = omega arith in
    whole _ l.w 16 l.invariant.2 (rw (← e) l.invariant.3)
