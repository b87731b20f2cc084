use mathlib.Core.Path.{sym}
use native.Mathlib.Omega.{arith}
use Rattle.cells.proofs.Reading.{reg_in_lem}
use Rattle.cells.proofs.reg.Goals as goal

pub returns : goal.returns
returns c = sym (reg_in_lem _ _ (omega arith))
