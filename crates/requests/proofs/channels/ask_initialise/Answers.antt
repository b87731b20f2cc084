use Rattle.std.proofs.lemmas.Result.{err_from_is_err_and}
use Rattle.unit.specs.Gate.{ask_initialise}
use Rattle.requests.proofs.Answered.{said-no, said-yes, said-last}
use Rattle.requests.proofs.channels.ask_initialise.Goals as goal

pub returns-in_err-ask : goal.returns-in_err-ask
unfolding ask_initialise
returns-in_err-ask c =
    let p = err_from_is_err_and c.from_residual.result c.from_residual.ensures.1 in
    rw (p.1, p.2)
    (said-no _ _ _ _ _ _ c.is_free.ensures c.ask.ensures c.in_err-ask.was)

pub returns-in_err-ask-2 : goal.returns-in_err-ask-2
unfolding ask_initialise
returns-in_err-ask-2 c =
    let p = err_from_is_err_and c.from_residual-in_err-ask-2.result c.from_residual-in_err-ask-2.ensures.1 in
    rw (p.1, p.2)
    (said-yes _ _ _ _ _ _ c.is_free.ensures c.ask.ensures c.in_ok-ask.was
    (said-no _ _ _ _ _ _ c.is_stepper.ensures c.ask-2.ensures c.in_err-ask-2.was))

pub returns : goal.returns
unfolding ask_initialise
returns c =
    said-yes _ _ _ _ _ _ c.is_free.ensures c.ask.ensures c.in_ok-ask.was
    (said-yes _ _ _ _ _ _ c.is_stepper.ensures c.ask-2.ensures c.in_ok-ask-2.was
    (said-last _ _ _ _ _ c.may_initialise.ensures c.ask-3.ensures))
