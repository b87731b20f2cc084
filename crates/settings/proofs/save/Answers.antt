use Rattle.std.proofs.Common.{sym, ◌∙◌}
use Rattle.std.proofs.lemmas.Result.{err_from_is_err_and}
use Rattle.settings.proofs.AnswerLaws.{or-err, or-ok, saves-nothing, saves-no-more, saves-next}
use Rattle.settings.proofs.save.Goals as goal

pub returns-then-count-eq0 : goal.returns-then-count-eq0
returns-then-count-eq0 c =
    let is = saves-nothing _ _ _ c.count.ensures c.if-count-eq0.true in
    record { answer = is.answer; number = is.number; version = is.version; kept = is.kept }

pub returns-in_err-version : goal.returns-in_err-version
returns-in_err-version c =
    let p = err_from_is_err_and c.from_residual.result c.from_residual.ensures.1 in
    let none = or-err _ _ (sym c.ok_or.ensures.value ∙ c.in_err-version.was) in
    let is = saves-no-more _ _ _ _ c.greatest.ensures c.checked_add.ensures none.0 in
    rw (p.1, p.2, none.1) record { answer = is.answer; number = is.number; version = is.version; kept = is.kept }

pub returns : goal.returns
returns c =
    let next = or-ok _ _ (sym c.ok_or.ensures.value ∙ c.in_ok-version.was) in
    let is = saves-next _ _ _ _ _ _ _ _ c.count.ensures c.if-count-eq0.false c.greatest.ensures c.checked_add.ensures next c.place.ensures c.lay.ensures in
    record { answer = is.answer; number = is.number; version = is.version; kept = is.kept }
