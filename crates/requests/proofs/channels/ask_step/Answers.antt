use Rattle.std.proofs.lemmas.Result.{err_from_is_err_and}
use Rattle.unit.specs.Gate.{ask_step}
use Rattle.requests.proofs.Answered.{said-no, said-yes}
use Rattle.requests.proofs.channels.ask_step.Goals as goal

pub returns-then-is_again : goal.returns-then-is_again
unfolding ask_step
returns-then-is_again c = rw (← c.is_again.ensures, c.if-is_again.true) c.ask_again.ensures

pub returns-in_err-ask : goal.returns-in_err-ask
unfolding ask_step
returns-in_err-ask c =
    let p = err_from_is_err_and c.from_residual.result c.from_residual.ensures.1 in
    rw (p.1, p.2, ← c.is_again.ensures, c.if-is_again.false)
    (said-no _ _ _ _ _ _ c.is_free.ensures c.ask.ensures c.in_err-ask.was)

pub returns-in_err-ask-2 : goal.returns-in_err-ask-2
unfolding ask_step
returns-in_err-ask-2 c =
    let p = err_from_is_err_and c.from_residual-in_err-ask-2.result c.from_residual-in_err-ask-2.ensures.1 in
    rw (p.1, p.2, ← c.is_again.ensures, c.if-is_again.false)
    (said-yes _ _ _ _ _ _ c.is_free.ensures c.ask.ensures c.in_ok-ask.was
    (said-no _ _ _ _ _ _ c.is_stepper.ensures c.ask-2.ensures c.in_err-ask-2.was))

pub returns-in_err-ask-3 : goal.returns-in_err-ask-3
unfolding ask_step
returns-in_err-ask-3 c =
    let p = err_from_is_err_and c.from_residual-in_err-ask-3.result c.from_residual-in_err-ask-3.ensures.1 in
    rw (p.1, p.2, ← c.is_again.ensures, c.if-is_again.false)
    (said-yes _ _ _ _ _ _ c.is_free.ensures c.ask.ensures c.in_ok-ask.was
    (said-yes _ _ _ _ _ _ c.is_stepper.ensures c.ask-2.ensures c.in_ok-ask-2.was
    (said-no _ _ _ _ _ _ c.span_good.ensures c.ask-3.ensures c.in_err-ask-3.was)))

pub returns-in_err-ask-4 : goal.returns-in_err-ask-4
unfolding ask_step
returns-in_err-ask-4 c =
    let p = err_from_is_err_and c.from_residual-in_err-ask-4.result c.from_residual-in_err-ask-4.ensures.1 in
    rw (p.1, p.2, ← c.is_again.ensures, c.if-is_again.false)
    (said-yes _ _ _ _ _ _ c.is_free.ensures c.ask.ensures c.in_ok-ask.was
    (said-yes _ _ _ _ _ _ c.is_stepper.ensures c.ask-2.ensures c.in_ok-ask-2.was
    (said-yes _ _ _ _ _ _ c.span_good.ensures c.ask-3.ensures c.in_ok-ask-3.was
    (said-no _ _ _ _ _ _ c.group_ready.ensures c.ask-4.ensures c.in_err-ask-4.was))))

pub returns-in_err-ask-5 : goal.returns-in_err-ask-5
unfolding ask_step
returns-in_err-ask-5 c =
    let p = err_from_is_err_and c.from_residual-in_err-ask-5.result c.from_residual-in_err-ask-5.ensures.1 in
    rw (p.1, p.2, ← c.is_again.ensures, c.if-is_again.false)
    (said-yes _ _ _ _ _ _ c.is_free.ensures c.ask.ensures c.in_ok-ask.was
    (said-yes _ _ _ _ _ _ c.is_stepper.ensures c.ask-2.ensures c.in_ok-ask-2.was
    (said-yes _ _ _ _ _ _ c.span_good.ensures c.ask-3.ensures c.in_ok-ask-3.was
    (said-yes _ _ _ _ _ _ c.group_ready.ensures c.ask-4.ensures c.in_ok-ask-4.was
    (said-no _ _ _ _ _ _ c.pattern_good.ensures c.ask-5.ensures c.in_err-ask-5.was)))))

pub returns : goal.returns
unfolding ask_step
returns c =
    rw (← c.is_again.ensures, c.if-is_again.false)
    (said-yes _ _ _ _ _ _ c.is_free.ensures c.ask.ensures c.in_ok-ask.was
    (said-yes _ _ _ _ _ _ c.is_stepper.ensures c.ask-2.ensures c.in_ok-ask-2.was
    (said-yes _ _ _ _ _ _ c.span_good.ensures c.ask-3.ensures c.in_ok-ask-3.was
    (said-yes _ _ _ _ _ _ c.group_ready.ensures c.ask-4.ensures c.in_ok-ask-4.was
    (said-yes _ _ _ _ _ _ c.pattern_good.ensures c.ask-5.ensures c.in_ok-ask-5.was
    c.ask_ramp.ensures)))))
