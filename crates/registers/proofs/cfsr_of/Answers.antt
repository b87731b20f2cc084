use Rattle.unit.specs.TheUnit.{cfsr_of}
use native.Mathlib.Omega.{arith}
use Rattle.registers.proofs.cfsr_of.Goals as goal

pub returns : goal.returns
unfolding cfsr_of
returns c = record { word = omega arith; register = omega arith }
