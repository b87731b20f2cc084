use Rattle.unit.specs.TheUnit.{cntl0}
use Rattle.fields.proofs.cntl0.Goals as goal

pub returns : goal.returns
unfolding cntl0
returns c = c.word_after.ensures
