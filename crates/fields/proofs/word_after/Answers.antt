use mathlib.Core.Path.{sym}
use native.Mathlib.Numerals.{add-one}
use native.Mathlib.Omega.{arith}
use Rattle.fields.proofs.Bounds.{word-beyond}
use Rattle.fields.proofs.word_after.Goals as goal

pub returns-then-c-lt15 : goal.returns-then-c-lt15
returns-then-c-lt15 c = rw (c.word.ensures, add-one)

pub returns-else-c-lt15 : goal.returns-else-c-lt15
returns-else-c-lt15 c = sym (word-beyond _ _ _ (omega arith))
