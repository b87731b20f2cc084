use Rattle.text.proofs.PlacingLaws.{one-fits, one-lost}
use Rattle.text.proofs.Page.put.Goals as goal

pub returns-then-self : goal.returns-then-self
returns-then-self c = search one-fits

pub returns-else-self : goal.returns-else-self
returns-else-self c = search one-lost
