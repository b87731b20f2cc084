use borrow.Author.Tests.{eq-eqb, ne_eqb}
use Rattle.unit.specs.Gate.{keeps_or_free}
use Rattle.gate.proofs.writes.keeps_or_free.Goals as goal

pub returns-then-nibble-function : goal.returns-then-nibble-function
unfolding keeps_or_free
returns-then-nibble-function c = rw (← c.nibble.ensures, ← c.function.ensures, eq-eqb _ _ c.if-nibble-function.true)

pub returns-else-nibble-function : goal.returns-else-nibble-function
unfolding keeps_or_free
returns-else-nibble-function c = rw (← c.nibble.ensures, ← c.function.ensures, ne_eqb _ _ c.if-nibble-function.false, c.is_free.ensures)
