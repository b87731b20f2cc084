use Rattle.script.proofs.ReplyingLaws.{read_word, read-refused}
use Rattle.script.proofs.Bench.read.Goals as goal

pub returns-in-Ok : goal.returns-in-Ok
returns-in-Ok c = read_word _ _ _ _ _ c.read.ensures.reading _ c.in-Ok.is c.word_line.ensures

pub returns-in-Err : goal.returns-in-Err
returns-in-Err c = read-refused _ _ _ _ _ c.read.ensures.reading _ c.in-Err.is c.refuse.ensures
