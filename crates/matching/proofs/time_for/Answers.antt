use Rattle.matching.proofs.time_for.Goals as goal

pub returns : goal.returns
returns c = rw (c.time_by.ensures, c.timers.ensures, c.timer-timer.ensures)
