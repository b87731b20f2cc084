use native.Mathlib.Omega.{arith}
use Rattle.stores.proofs.Puts.{set-up-put}
use borrow.Author.Rules.{rules}
use Rattle.stores.proofs.set_up.Goals as goal

pub returns : goal.returns
returns c = rw (c.put_in.ensures, c.timer_number.ensures, c.with_bit.ensures) (set-up-put _ (search rules) _ (omega arith) _)
