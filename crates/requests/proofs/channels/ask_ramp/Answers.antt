use Rattle.std.proofs.lemmas.Result.{err_from_is_err_and}
use Rattle.requests.proofs.Answered.{said-no, said-yes, said-last}
use Prim.Native.Nat.{ℕ}
use mathlib.Core.Path.{◌≡◌}
use Rattle.words.specs.Choice.{ask}
use Rattle.unit.specs.declared.State.{State}
use Rattle.unit.specs.declared.Refusal.TheVariants.{TargetTooFar, TooFast, WrongRamp}
use Rattle.unit.specs.TheUnit.{word, target, cntl0, cntl1, top}
use Rattle.unit.specs.Gate.{Yes, No, ramp_good, quick_good, target_good, requested}
use Rattle.requests.specs.Told.{ask_ramp}
use Rattle.requests.proofs.channels.ask_ramp.Goals as goal

-- by the words that the code has read
as_read : (s : State) (k a b n t : ℕ) → a ≡ cntl0 s k → b ≡ cntl1 s k → n ≡ top s k → t ≡ word s k 3
    → ask_ramp s k ≡ ask (ramp_good a b n) (No WrongRamp) (ask (quick_good a b n) (No TooFast) (ask (target_good s k t) (No TargetTooFar) (Yes (requested s k 3))))
unfolding target
as_read s k a b n t e f g h = rw (e, f, g, h)

pub returns-in_err-ask : goal.returns-in_err-ask
returns-in_err-ask c =
    let p = err_from_is_err_and c.from_residual.result c.from_residual.ensures.1 in
    rw (p.1, p.2, as_read _ _ _ _ _ _ c.cntl0-cntl0.ensures c.cntl1-cntl1.ensures c.top-top.ensures c.word-target.ensures)
    (said-no _ _ _ _ _ _ c.ramp_good.ensures c.ask.ensures c.in_err-ask.was)

pub returns-in_err-ask-2 : goal.returns-in_err-ask-2
returns-in_err-ask-2 c =
    let p = err_from_is_err_and c.from_residual-in_err-ask-2.result c.from_residual-in_err-ask-2.ensures.1 in
    rw (p.1, p.2, as_read _ _ _ _ _ _ c.cntl0-cntl0.ensures c.cntl1-cntl1.ensures c.top-top.ensures c.word-target.ensures)
    (said-yes _ _ _ _ _ _ c.ramp_good.ensures c.ask.ensures c.in_ok-ask.was
    (said-no _ _ _ _ _ _ c.quick_good.ensures c.ask-2.ensures c.in_err-ask-2.was))

pub returns : goal.returns
returns c =
    rw (as_read _ _ _ _ _ _ c.cntl0-cntl0.ensures c.cntl1-cntl1.ensures c.top-top.ensures c.word-target.ensures)
    (said-yes _ _ _ _ _ _ c.ramp_good.ensures c.ask.ensures c.in_ok-ask.was
    (said-yes _ _ _ _ _ _ c.quick_good.ensures c.ask-2.ensures c.in_ok-ask-2.was
    (said-last _ _ _ _ _ c.target_good.ensures c.ask-3.ensures)))
