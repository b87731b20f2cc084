use Rattle.text.specs.Ascii.{ascii}
use Rattle.text.proofs.PlacingLaws.{also}
use Rattle.signals.specs.Signals.{vector}
use Rattle.signals.proofs.vector.Goals as goal

pub returns-in-Some : goal.returns-in-Some
unfolding vector ascii
returns-in-Some c = rw c.in-Some.is (also c.put.ensures c.binary.ensures)

pub returns-in-None : goal.returns-in-None
unfolding vector ascii
returns-in-None c = rw c.in-None.is c.text.ensures
