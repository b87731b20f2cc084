use Rattle.unit.specs.Gate.{is_free}
use Rattle.binding.proofs.is_free.Goals as goal

pub returns-then-not-is_bound : goal.returns-then-not-is_bound
unfolding is_free
returns-then-not-is_bound c = rw (← c.is_bound.ensures, ← c.request.ensures, c.if-not-is_bound.true)

pub returns-else-not-is_bound : goal.returns-else-not-is_bound
unfolding is_free
returns-else-not-is_bound c = rw (← c.is_bound.ensures, c.if-not-is_bound.false)
