use Rattle.text.specs.Ascii.{ascii}
use Rattle.text.proofs.PlacingLaws.{also}
use Rattle.wave.specs.Changes.{changes}
use Rattle.wave.proofs.changes.Goals as goal

pub returns : goal.returns
unfolding changes ascii
returns c = also c.put.ensures (also c.decimal.ensures (also c.put-2.ensures c.values.ensures))
