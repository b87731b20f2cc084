use Rattle.unit.specs.Pending.{is_matched}
use borrow.Author.Rules.{rules}
use Rattle.channel.proofs.pending.is_matched.Goals as goal

pub returns-in-Resting : goal.returns-in-Resting
unfolding is_matched
returns-in-Resting c = search rules

pub returns-in-Requested : goal.returns-in-Requested
unfolding is_matched
returns-in-Requested c = search rules

pub returns-in-Armed : goal.returns-in-Armed
unfolding is_matched
returns-in-Armed c = search rules

pub returns-in-Matched : goal.returns-in-Matched
unfolding is_matched
returns-in-Matched c = search rules
