use native.Mathlib.Omega.{arith}
use mathlib.Core.Path.{◌≡◌, refl}
use Rattle.unit.specs.TheUnit.{each}
use Rattle.matching.proofs.Loops.{one_more}
use Rattle.stepping.proofs.all_prepared.Goals as goal

pub loop-i-init : goal.loop-i-init
unfolding each
loop-i-init c = (omega arith, refl)

pub invariant_of-prepared : goal.invariant_of-prepared
invariant_of-prepared c =
    omega arith

pub loop-i-preserved : goal.loop-i-preserved
loop-i-preserved c =
    let at = c.loop-i in
    (omega arith, one_more at.i _ _ _ _ _ _ refl at.invariant.1 c.prepared.ensures)

pub returns : goal.returns
returns c =
    let e : c.loop-i.i ≡ c.args.n = omega arith in
    rw (← e) c.loop-i.invariant.1
