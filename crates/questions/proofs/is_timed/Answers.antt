use borrow.Author.Tests.{eq-eqb, ne_eqb}
use Rattle.unit.specs.Gate.{is_timed}
use Rattle.questions.proofs.is_timed.Goals as goal

pub returns-then-timing-eq4 : goal.returns-then-timing-eq4
unfolding is_timed
returns-then-timing-eq4 c = rw (← c.timing-timing.ensures, eq-eqb _ _ c.if-timing-eq4.true)

pub returns-else-timing-eq4 : goal.returns-else-timing-eq4
unfolding is_timed
returns-else-timing-eq4 c = rw (← c.timing-timing.ensures, ne_eqb _ 4 c.if-timing-eq4.false)
