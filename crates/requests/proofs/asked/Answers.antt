use mathlib.Core.Path.{sym, ◌∙◌}
use Rattle.requests.proofs.Passed.{asks-lone}
use borrow.Author.Rules.{rules}
use Rattle.requests.proofs.asked.Goals as goal

pub returns-in-Some : goal.returns-in-Some
returns-in-Some c =
    let a = c.args in
    let n = c.in-Some.ensures in
    (_, c.ask_channel.ensures ∙ rw c.pair.ensures (sym (asks-lone a.a a.v _ _ (search rules) n.0 n.1)))
