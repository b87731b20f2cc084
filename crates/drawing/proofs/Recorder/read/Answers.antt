use Rattle.drawing.proofs.DrawingLaws.{read_word, read-refused}
use Rattle.drawing.proofs.Recorder.read.Goals as goal

pub returns-in-Err : goal.returns-in-Err
returns-in-Err c = read-refused _ _ _ _ c.read.ensures.reading _ _ c.in-Err.is c.refusal_note.ensures

pub returns-in_default : goal.returns-in_default
returns-in_default c = read_word _ _ _ _ c.read.ensures.reading _ c.in_default.is
