use mathlib.Core.Path.{sym}
use native.Mathlib.Omega.{arith}
use Rattle.cells.proofs.Reading.{late-in}
use Rattle.cells.proofs.late.Goals as goal

pub returns : goal.returns
returns c = sym (late-in _ _ (omega arith))
