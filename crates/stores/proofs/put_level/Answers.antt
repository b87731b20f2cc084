use native.Mathlib.Omega.{arith}
use Rattle.stores.proofs.Puts.{level-put}
use borrow.Author.Rules.{rules}
use Rattle.stores.proofs.put_level.Goals as goal

pub returns : goal.returns
returns c = rw c.with_bit.ensures (level-put _ (search rules) _ (omega arith) _)
