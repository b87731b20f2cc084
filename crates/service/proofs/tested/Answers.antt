use mathlib.Core.Path.{◌∙◌}
use Rattle.service.proofs.tested.Goals as goal

pub returns : goal.returns
returns c =
    c.outcome.ensures ∙ rw (c.on_request-o.ensures, c.motor_of.ensures, c.time_for-now.ensures)
