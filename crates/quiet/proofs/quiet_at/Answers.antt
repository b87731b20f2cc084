use Rattle.unit.specs.Pending.{wanted}
use Rattle.unit.specs.Quiet.{quiet_at}
use Rattle.quiet.proofs.quiet_at.Goals as goal

pub returns-then-is_wanted : goal.returns-then-is_wanted
unfolding quiet_at wanted
returns-then-is_wanted c =
    rw (← c.phase-phase.ensures, ← c.priority.ensures, ← c.request.ensures, ← c.is_wanted.ensures, c.if-is_wanted.true)

pub returns : goal.returns
unfolding quiet_at wanted
returns c =
    rw (c.waits.ensures, c.timers.ensures, c.timer-timer.ensures, c.phase-phase.ensures, ← c.priority.ensures, ← c.request.ensures, ← c.phase-phase.ensures, ← c.is_wanted.ensures, c.if-is_wanted.false)
