use mathlib.Core.Path.{sym, ◌∙◌}
use native.Mathlib.Omega.{arith}
use Rattle.cells.proofs.Reading.{level_in}
use Rattle.cells.proofs.level.Goals as goal

pub returns : goal.returns
returns c = c.bit.ensures ∙ sym (level_in _ _ (omega arith))
