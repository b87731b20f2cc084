use native.Mathlib.Omega.{arith}
use Rattle.stores.proofs.Puts.{happen-put}
use borrow.Author.Rules.{rules}
use Rattle.stores.proofs.happen.Goals as goal

pub returns : goal.returns
returns c = rw c.standing.ensures (happen-put _ (search rules) _ (omega arith) _ _ _)
