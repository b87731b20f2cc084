use mathlib.Core.Path.{sym}
use native.Mathlib.Omega.{arith}
use Rattle.cells.proofs.Reading.{phase-in}
use Rattle.cells.proofs.phase.Goals as goal

pub returns : goal.returns
returns c = rw (c.phase_from.ensures, c.phase_number-number.ensures) (sym (phase-in _ _ (omega arith)))
