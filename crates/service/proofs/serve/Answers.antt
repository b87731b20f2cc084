use mathlib.Core.Path.{◌∙◌}
use Rattle.unit.specs.OneTick.{served}
use Rattle.service.proofs.serve.Goals as goal

pub returns : goal.returns
unfolding served
returns c =
    c.match_served.ensures ∙ rw (c.request_served.ensures, c.phase-p.ensures)
