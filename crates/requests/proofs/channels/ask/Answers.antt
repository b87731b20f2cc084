use Rattle.words.specs.Choice.{ask}
use Rattle.requests.proofs.channels.ask.Goals as goal

pub returns-then-holds : goal.returns-then-holds
unfolding ask
returns-then-holds c = rw c.if-holds.true

pub returns-else-holds : goal.returns-else-holds
unfolding ask
returns-else-holds c = rw c.if-holds.false
