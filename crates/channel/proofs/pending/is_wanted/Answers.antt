use Rattle.words.proofs.ChoiceLaws.{cases}
use Rattle.unit.specs.Pending.{is_wanted}
use Rattle.channel.proofs.pending.is_wanted.Goals as goal

pub returns-then-priority-eq0 : goal.returns-then-priority-eq0
unfolding is_wanted
returns-then-priority-eq0 c = search cases

pub returns-then-request-ge2 : goal.returns-then-request-ge2
unfolding is_wanted
returns-then-request-ge2 c = search cases

pub returns : goal.returns
unfolding is_wanted
returns c = rw c.is_matched.ensures (search cases)
