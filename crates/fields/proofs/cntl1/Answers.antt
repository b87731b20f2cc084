use Rattle.unit.specs.TheUnit.{cntl1}
use Rattle.fields.proofs.cntl1.Goals as goal

pub returns : goal.returns
unfolding cntl1
returns c = c.word_after.ensures
