use Rattle.std.proofs.Common.{◌∙◌, sym}
use borrow.Author.Tests.{eq-eqb, ne_eqb}
use Rattle.std.proofs.lemmas.Result.{err_from_is_err_and}
use Rattle.words.specs.Choice.{ask}
use Rattle.keeping.specs.Keeping.{chosen_in, chosen}
use Rattle.settings.proofs.AnswerLaws.{or-err, or-ok}
use Rattle.settings.proofs.loading.chosen.Goals as goal

pub returns-in_err-k : goal.returns-in_err-k
unfolding chosen chosen_in
returns-in_err-k c =
    let p = err_from_is_err_and c.from_residual.result c.from_residual.ensures.1 in
    let none = or-err _ _ (sym c.ok_or.ensures.value ∙ c.in_err-k.was) in
    rw (p.1, p.2, ← c.into.ensures, ← c.find.ensures, none.0, none.1)

pub returns-then-word-ne-LAYOUT : goal.returns-then-word-ne-LAYOUT
unfolding chosen chosen_in ask
returns-then-word-ne-LAYOUT c =
    let found = or-ok _ _ (sym c.ok_or.ensures.value ∙ c.in_ok-k.was) in
    rw (← c.into.ensures, ← c.find.ensures, found, ← c.word.ensures, ne_eqb _ _ c.if-word-ne-LAYOUT.true)

pub returns : goal.returns
unfolding chosen chosen_in ask
returns c =
    let found = or-ok _ _ (sym c.ok_or.ensures.value ∙ c.in_ok-k.was) in
    rw (← c.into.ensures, ← c.find.ensures, found, ← c.word.ensures, eq-eqb _ _ c.if-word-ne-LAYOUT.false)
