use Rattle.unit.specs.Gate.{target_good}
use Rattle.questions.proofs.target_good.Goals as goal

pub returns : goal.returns
unfolding target_good
returns c = rw c.top.ensures
