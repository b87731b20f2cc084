use Rattle.script.specs.Printing.{word_line}
use Rattle.text.proofs.PlacingLaws.{also}
use Rattle.script.proofs.print.word_line.Goals as goal

pub returns : goal.returns
unfolding word_line
returns c = also c.text.ensures (also c.word.ensures c.put.ensures)
