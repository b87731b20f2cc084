use Rattle.unit.specs.Gate.{quick_good}
use Rattle.questions.proofs.quick_good.Goals as goal

pub returns : goal.returns
unfolding quick_good
returns c = rw c.period.ensures
