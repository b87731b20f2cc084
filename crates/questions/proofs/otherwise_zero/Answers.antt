use borrow.Author.Tests.{eq-eqb, ne_eqb}
use Rattle.unit.specs.Gate.{otherwise_zero}
use Rattle.questions.proofs.otherwise_zero.Goals as goal

pub returns-then-nibble-eq0 : goal.returns-then-nibble-eq0
unfolding otherwise_zero
returns-then-nibble-eq0 c = rw (← c.nibble.ensures, eq-eqb _ _ c.if-nibble-eq0.true, c.nibble-then-nibble-eq0.ensures)

pub returns-else-nibble-eq0 : goal.returns-else-nibble-eq0
unfolding otherwise_zero
returns-else-nibble-eq0 c = rw (← c.nibble.ensures, ne_eqb _ _ c.if-nibble-eq0.false)
