use native.Mathlib.Omega.{arith}
use mathlib.Core.Path.{◌≡◌, refl, ◌∙◌}
use Rattle.unit.specs.TheUnit.{each}
use Rattle.unit.specs.Stepping.{pin_out, pins_out}
use Rattle.matching.proofs.Loops.{one_more}
use Rattle.matching.proofs.pins_out.Goals as goal

pub loop-k-init : goal.loop-k-init
unfolding each
loop-k-init c = (omega arith, c.size-n.ensures.inside, refl)

pub invariant_of-pin_out : goal.invariant_of-pin_out
invariant_of-pin_out c =
    omega arith

pub loop-k-preserved : goal.loop-k-preserved
loop-k-preserved c =
    let at = c.loop-k in
    (omega arith, at.invariant.1, one_more at.k _ _ pin_out _ _ _ refl at.invariant.2 c.pin_out.ensures)

pub returns : goal.returns
unfolding pins_out
returns c =
    let at = c.loop-k in
    let e : at.k ≡ c.size-n.result = omega arith in
    rw (← e ∙ c.size-n.ensures.size) at.invariant.2
