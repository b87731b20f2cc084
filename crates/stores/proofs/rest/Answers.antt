use native.Mathlib.Omega.{arith}
use Rattle.stores.proofs.Puts.{rest_put}
use borrow.Author.Rules.{rules}
use Rattle.stores.proofs.rest.Goals as goal

pub returns : goal.returns
returns c = rw c.put_in.ensures (rest_put _ (search rules) _ (omega arith))
