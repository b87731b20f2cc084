use Rattle.unit.specs.Gate.{is_stepper}
use Rattle.questions.proofs.is_stepper.Goals as goal

pub returns : goal.returns
unfolding is_stepper
returns c = rw c.function.ensures
