use borrow.Author.Tests.{eq-eqb, ne_eqb}
use Rattle.gate.proofs.writes.is_target.Goals as goal

pub returns-then-i-eq3 : goal.returns-then-i-eq3
returns-then-i-eq3 c = rw (eq-eqb _ 3 c.if-i-eq3.true, c.stepping.ensures)

pub returns-else-i-eq3 : goal.returns-else-i-eq3
returns-else-i-eq3 c = rw (ne_eqb _ 3 c.if-i-eq3.false)
