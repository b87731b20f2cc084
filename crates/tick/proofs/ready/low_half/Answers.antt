use native.Mathlib.Omega.{arith}
use mathlib.Core.Path.{◌≡◌, refl}
use Rattle.tick.specs.Ready.{pending_below}
use Rattle.tick.proofs.ready.low_half.Goals as goal

pub loop-c-init : goal.loop-c-init
unfolding pending_below
loop-c-init c = (omega arith, refl)

pub marked-w-requires : goal.marked-w-requires
marked-w-requires c = c.loop-c.invariant.1

pub loop-c-preserved : goal.loop-c-preserved
loop-c-preserved c = (omega arith, c.marked-w.ensures)

pub returns : goal.returns
returns c =
    let e : c.loop-c.c ≡ 8 = omega arith in
    rw (← e) c.loop-c.invariant.1
