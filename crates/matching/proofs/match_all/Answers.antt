use native.Mathlib.Omega.{arith}
use mathlib.Core.Path.{◌≡◌, refl}
use Rattle.unit.specs.TheUnit.{each}
use Rattle.unit.specs.OneTick.{matched}
use Rattle.matching.proofs.Loops.{one_more}
use Rattle.matching.proofs.match_all.Goals as goal

pub loop-c-init : goal.loop-c-init
unfolding each
loop-c-init c = (omega arith, refl)

pub invariant_of-match_one : goal.invariant_of-match_one
invariant_of-match_one c =
    omega arith

pub loop-c-preserved : goal.loop-c-preserved
loop-c-preserved c =
    let at = c.loop-c in
    (omega arith, one_more at.c 0 _ matched _ _ _ (omega arith) at.invariant.1 c.match_one.ensures)

pub returns : goal.returns
returns c =
    let e : c.loop-c.c ≡ 16 = omega arith in
    rw (← e) c.loop-c.invariant.1
