use native.Mathlib.Omega.{arith}
use Rattle.stores.proofs.Puts.{reg-put}
use borrow.Author.Rules.{rules}
use Rattle.stores.proofs.put_reg.Goals as goal

pub returns : goal.returns
returns c = reg-put _ (search rules) _ _ (omega arith)
