use native.Mathlib.Omega.{arith}
use Rattle.stores.proofs.Puts.{bind-put}
use borrow.Author.Rules.{rules}
use Rattle.stores.proofs.bind.Goals as goal

pub returns : goal.returns
returns c = rw (c.put_in.ensures, c.with_bit.ensures, c.bit.ensures) (bind-put _ (search rules) _ (omega arith))
