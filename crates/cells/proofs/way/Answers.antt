use mathlib.Core.Path.{sym, ◌∙◌}
use native.Mathlib.Omega.{arith}
use mathlib.Core.Path.{ap}
use Rattle.unit.specs.TheUnit.{way_from}
use Rattle.cells.proofs.Reading.{way_in}
use Rattle.cells.proofs.way.Goals as goal

pub returns : goal.returns
returns c = c.way_from.ensures ∙ ap way_from c.bit.ensures ∙ sym (way_in _ _ (omega arith))
