use mathlib.Core.Path.{sym, ◌∙◌}
use native.Mathlib.Omega.{arith}
use mathlib.Core.Path.{ap}
use Rattle.unit.specs.TheUnit.{timer_from}
use Rattle.cells.proofs.Reading.{timer-in}
use Rattle.cells.proofs.timer.Goals as goal

pub returns : goal.returns
returns c = c.timer_from.ensures ∙ ap timer_from c.bit.ensures ∙ sym (timer-in _ _ (omega arith))
