use Rattle.unit.specs.TheUnit.{reaches}
use Rattle.binding.proofs.reaches.Goals as goal

pub returns-then-stepping : goal.returns-then-stepping
unfolding reaches
returns-then-stepping c = rw (← c.stepping.ensures, c.if-stepping.true, c.spans.ensures)

pub returns-else-stepping : goal.returns-else-stepping
unfolding reaches
returns-else-stepping c = rw (← c.stepping.ensures, c.if-stepping.false)
