use Rattle.script.proofs.ReplyingLaws.{write-taken, write-refused}
use Rattle.script.proofs.Bench.write.Goals as goal

pub returns-in-Ok : goal.returns-in-Ok
returns-in-Ok c = write-taken _ _ _ _ _ _ c.write-written.ensures.answered c.in-Ok.is c.text.ensures

pub returns-in-Err : goal.returns-in-Err
returns-in-Err c = write-refused _ _ _ _ _ _ c.write-written.ensures.answered _ c.in-Err.is c.refuse.ensures
