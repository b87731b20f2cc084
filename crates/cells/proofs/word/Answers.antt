use mathlib.Core.Path.{sym}
use native.Mathlib.Omega.{arith}
use Rattle.cells.proofs.Reading.{word-in}
use Rattle.cells.proofs.word.Goals as goal

pub returns : goal.returns
returns c = sym (word-in _ _ _ (omega arith))
