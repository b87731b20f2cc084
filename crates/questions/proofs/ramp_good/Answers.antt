use borrow.Author.Tests.{le-leb, lt-leb}
use Rattle.unit.specs.Gate.{ramp_good}
use Rattle.questions.proofs.ramp_good.Goals as goal

pub returns-then-period-ge1 : goal.returns-then-period-ge1
unfolding ramp_good
returns-then-period-ge1 c = rw (← c.period.ensures, le-leb 1 _ c.if-period-ge1.true, c.period-then-period-ge1.ensures)

pub returns-else-period-ge1 : goal.returns-else-period-ge1
unfolding ramp_good
returns-else-period-ge1 c = rw (← c.period.ensures, lt-leb 1 _ c.if-period-ge1.false)
