use borrow.Author.Tests.{le-leb, lt-leb}
use Rattle.tick.specs.Ready.{pends}
use Rattle.tick.proofs.ready.pends.Goals as goal

pub returns-then-request-ge2 : goal.returns-then-request-ge2
unfolding pends
returns-then-request-ge2 c = rw (← c.request.ensures, le-leb 2 _ c.if-request-ge2.true)

pub returns-else-request-ge2 : goal.returns-else-request-ge2
unfolding pends
returns-else-request-ge2 c = rw (← c.request.ensures, lt-leb 2 _ c.if-request-ge2.false, c.is_matched.ensures, c.phase.ensures)
