use Rattle.stores.proofs.Puts.{timers-put}
use borrow.Author.Rules.{rules}
use Rattle.stores.proofs.put_timers.Goals as goal

pub returns : goal.returns
returns c = timers-put _ (search rules) _
