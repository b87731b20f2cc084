use mathlib.Core.Path.{sym, ◌∙◌}
use native.Mathlib.Omega.{arith}
use mathlib.Core.Path.{ap}
use Rattle.unit.specs.TheUnit.{timer_from}
use Rattle.cells.proofs.Reading.{kind-in}
use Rattle.cells.proofs.kind.Goals as goal

pub returns : goal.returns
returns c = c.timer_from.ensures ∙ ap timer_from c.bit.ensures ∙ sym (kind-in _ _ (omega arith))
