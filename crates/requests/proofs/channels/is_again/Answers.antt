use Rattle.requests.proofs.channels.is_again.Goals as goal

pub returns-then-stepping : goal.returns-then-stepping
returns-then-stepping c = rw (← c.stepping.ensures, c.if-stepping.true, c.request.ensures)

pub returns-else-stepping : goal.returns-else-stepping
returns-else-stepping c = rw (← c.stepping.ensures, c.if-stepping.false)
