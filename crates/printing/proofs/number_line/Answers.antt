use Rattle.text.specs.Printing.{number_line}
use Rattle.text.proofs.PlacingLaws.{also}
use Rattle.printing.proofs.number_line.Goals as goal

pub returns : goal.returns
unfolding number_line
returns c = also c.pair.ensures (also c.decimal.ensures c.put.ensures)
