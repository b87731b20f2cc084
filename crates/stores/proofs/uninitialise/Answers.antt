use native.Mathlib.Omega.{arith}
use Rattle.stores.proofs.Puts.{uninitialised-put}
use borrow.Author.Rules.{rules}
use Rattle.stores.proofs.uninitialise.Goals as goal

pub returns : goal.returns
returns c = rw c.with_bit.ensures (uninitialised-put _ (search rules) _ (omega arith))
