use native.Mathlib.Omega.{arith}
use mathlib.Core.Path.{◌≡◌}
use Rattle.tick.proofs.ready.pending_word.Goals as goal

pub loop-c-init : goal.loop-c-init
loop-c-init c = (omega arith, c.low_half-w.ensures)

pub marked-w-requires : goal.marked-w-requires
marked-w-requires c = c.loop-c.invariant.1

pub loop-c-preserved : goal.loop-c-preserved
loop-c-preserved c = (omega arith, c.marked-w.ensures)

pub returns : goal.returns
returns c =
    let e : c.loop-c.c ≡ 16 = omega arith in
    rw (← e) c.loop-c.invariant.1
