use Rattle.drawing.proofs.DrawingLaws.{write-taken, write-refused}
use Rattle.drawing.proofs.Recorder.write.Goals as goal

pub returns-in-Err : goal.returns-in-Err
returns-in-Err c = write-refused _ _ _ _ _ c.write-written.ensures.answered _ _ c.in-Err.is c.refusal_note.ensures

pub returns-in_default : goal.returns-in_default
returns-in_default c = write-taken _ _ _ _ _ c.write-written.ensures.answered c.in_default.is
