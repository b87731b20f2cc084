use mathlib.Core.Path.{sym, ap, ◌∙◌}
use borrow.Author.Tests.{eq-eqb, ne_eqb}
use Rattle.words.specs.declared.Timer.TheVariants.{Tcr1, Tcr2}
use Rattle.words.specs.Choice.{pick}
use Rattle.unit.specs.TheUnit.{kind_in}
use Rattle.service.proofs.kind_in.Goals as goal

pub returns-then-timing-eq7 : goal.returns-then-timing-eq7
unfolding kind_in
returns-then-timing-eq7 c = ap (λ b. pick b Tcr2 Tcr1) (sym (eq-eqb _ 7 (sym c.timing.ensures ∙ c.if-timing-eq7.true)))

pub returns-else-timing-eq7 : goal.returns-else-timing-eq7
unfolding kind_in
returns-else-timing-eq7 c = ap (λ b. pick b Tcr2 Tcr1) (sym (ne_eqb _ 7 (λ e. c.if-timing-eq7.false (c.timing.ensures ∙ e))))
