use Rattle.std.proofs.Common.{◌≡◌, arith}
use Rattle.drawing.proofs.DrawingLaws.{unticked, one_more, advance-taken, advance-refused}
use Rattle.drawing.proofs.Recorder.advance.Goals as goal

pub returns-then-from-gt-MAX_TICKS : goal.returns-then-from-gt-MAX_TICKS
returns-then-from-gt-MAX_TICKS c = advance-refused _ _ _ _ (omega (arith, c.from.ensures)) c.refusal_note.ensures

pub loop-i-init : goal.loop-i-init
loop-i-init c = unticked _ _ (omega arith)

pub loop-i-preserved : goal.loop-i-preserved
loop-i-preserved c =
    let t = c.tick.ensures in
    one_more c.loop-i.i c.loop-i.invariant t.state (rw c.from-in-loop-i.ensures at t.ticks) t.seen (rw (← t.ticks) at t.drawn)

pub returns : goal.returns
returns c =
    let e : c.loop-i.i ≡ c.args.count = omega arith in
    advance-taken _ _ _ _ _ (omega (arith, c.from.ensures)) (rw e at c.loop-i.invariant)
