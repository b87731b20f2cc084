use native.Mathlib.Omega.{arith}
use Rattle.stores.proofs.Puts.{late-put}
use borrow.Author.Rules.{rules}
use Rattle.stores.proofs.put_late.Goals as goal

pub returns : goal.returns
returns c = late-put _ (search rules) _ (omega arith) _
