use mathlib.Core.Path.{ap, ◌∙◌}
use Rattle.unit.specs.TheUnit.{interrupt_line}
use Rattle.tpu.proofs.interrupt_line.Goals as goal

pub returns : goal.returns
returns c = c.interrupt_line.ensures ∙ ap interrupt_line c.pack.ensures
