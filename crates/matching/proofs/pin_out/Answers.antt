use mathlib.Core.Path.{◌∙◌}
use Rattle.unit.specs.Stepping.{pin_out}
use Rattle.matching.proofs.pin_out.Goals as goal

pub returns : goal.returns
unfolding pin_out
returns c =
    c.put_pin.ensures ∙ rw c.level-on.ensures
