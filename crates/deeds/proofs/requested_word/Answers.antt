use mathlib.Core.Path.{◌∙◌}
use Rattle.deeds.proofs.Requests.{lone-requested}
use borrow.Author.Rules.{rules}
use Rattle.deeds.proofs.requested_word.Goals as goal

pub returns-in-Some : goal.returns-in-Some
returns-in-Some c =
    let a = c.args in
    let n = c.in-Some.ensures in
    c.requested.ensures ∙ rw c.pair.ensures (lone-requested a.a a.v _ _ (search rules) n.0 n.1)
