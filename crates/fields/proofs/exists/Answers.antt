use borrow.Author.Tests.{le-leb, lt-leb}
use Rattle.unit.specs.TheUnit.{exists}
use Rattle.fields.proofs.exists.Goals as goal

pub returns-then-c-ge14 : goal.returns-then-c-ge14
unfolding exists
returns-then-c-ge14 c = rw (le-leb 14 _ c.if-c-ge14.true)

pub returns-else-c-ge14 : goal.returns-else-c-ge14
unfolding exists
returns-else-c-ge14 c = rw (lt-leb 14 _ c.if-c-ge14.false)
