use native.Mathlib.Omega.{arith}
use Rattle.stores.proofs.Puts.{word-put}
use borrow.Author.Rules.{rules}
use Rattle.stores.proofs.put_word.Goals as goal

pub returns : goal.returns
returns c = word-put _ (search rules) _ _ _ (omega arith) (omega arith)
