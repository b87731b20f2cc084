use native.Mathlib.Omega.{arith}
use Rattle.stores.proofs.Puts.{arm-put}
use borrow.Author.Rules.{rules}
use Rattle.stores.proofs.arm.Goals as goal

pub returns : goal.returns
returns c = rw c.standing.ensures (arm-put _ (search rules) _ (omega arith) _ _)
