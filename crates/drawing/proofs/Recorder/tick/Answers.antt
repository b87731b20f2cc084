use Rattle.std.proofs.Common.{ap}
use Rattle.unit.specs.declared.Answered.{Answered}
use Rattle.unit.specs.OneTick.{after_ticks}
use Rattle.unit.specs.Gate.{advance_good}
use Rattle.unit.specs.Calls.{advance_of}
use Rattle.drawing.proofs.Recorder.tick.Goals as goal

pub returns-clause-state : goal.returns-clause-state
unfolding advance_of advance_good after_ticks
returns-clause-state c = ap (λ (x : Answered). x.state) c.advance-advanced.ensures.answered
