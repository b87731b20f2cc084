use Rattle.stores.proofs.Puts.{slots-put}
use borrow.Author.Rules.{rules}
use Rattle.stores.proofs.put_slots.Goals as goal

pub returns : goal.returns
returns c = slots-put _ (search rules) _
