use Rattle.text.proofs.PlacingLaws.{also}
use Rattle.text.proofs.Page.pair.Goals as goal

pub returns : goal.returns
returns c = also c.put.ensures c.put-2.ensures
