use mathlib.Core.Path.{◌∙◌}
use Rattle.unit.specs.Stepping.{outcome}
use Rattle.stepping.proofs.outcome.Goals as goal

pub returns-in-Arrived : goal.returns-in-Arrived
unfolding outcome
returns-in-Arrived c =
    rw c.in-Arrived.is (c.put_status.ensures ∙ rw c.rest.ensures)

pub returns-in-Step : goal.returns-in-Step
unfolding outcome
returns-in-Step c =
    rw c.in-Step.is c.stepped.ensures
