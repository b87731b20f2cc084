use mathlib.Core.Path.{sym, ◌∙◌}
use native.Mathlib.Omega.{arith}
use Rattle.cells.proofs.Reading.{initialised-in}
use Rattle.cells.proofs.initialised.Goals as goal

pub returns : goal.returns
returns c = c.bit.ensures ∙ sym (initialised-in _ _ (omega arith))
