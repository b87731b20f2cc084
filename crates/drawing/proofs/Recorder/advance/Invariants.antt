use Rattle.drawing.proofs.DrawingLaws.{Ticked}
use Rattle.drawing.proofs.Recorder.advance.Given as goal

abbrev pub invariant-loop-i : goal.invariant-loop-i
invariant-loop-i l = Ticked l.i l.initial.self l.self l.initial.page l.page
