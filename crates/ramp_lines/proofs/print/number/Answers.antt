use Rattle.text.proofs.PlacingLaws.{also}
use Rattle.ramp_lines.proofs.print.number.Goals as goal

pub returns : goal.returns
returns c = also c.put.ensures c.decimal.ensures
