use Rattle.requests.proofs.Answered.{said-last}
use Rattle.requests.proofs.channels.ask_again.Goals as goal

pub returns : goal.returns
returns c = said-last _ _ _ _ _ c.is_stepper.ensures c.ask.ensures
