use native.Mathlib.Omega.{arith}
use lib.Count.{trailing_le}
use Rattle.slots.proofs.FirstBit.{first-none, first_found}
use borrow.Author.Rules.{rules}
use Rattle.slots.proofs.first_from.Goals as goal

pub returns-then-turned-eq0 : goal.returns-then-turned-eq0
returns-then-turned-eq0 c = first-none _ _ (rw c.if-turned-eq0.true at c.rotate-turned.ensures.turned)

pub overflow_cast-result : goal.overflow_cast-result
overflow_cast-result c = omega (arith, trailing_le 16 c.rotate-turned.result)

pub overflow_add-result : goal.overflow_add-result
overflow_add-result c = omega (arith, trailing_le 16 c.rotate-turned.result)

pub returns : goal.returns
returns c = first_found _ _ _ c.rotate-turned.ensures.turned (search rules) c.if-turned-eq0.false
