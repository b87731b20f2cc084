use Rattle.text.specs.Placing.{Wrote}
use Rattle.ramp_lines.specs.Replying.{periods_to}
use Rattle.ramp_lines.proofs.print.periods.Given as goal

abbrev pub invariant-loop-r : goal.invariant-loop-r
invariant-loop-r l = Wrote l.initial.page (periods_to l.r l.words.step_cntl0 l.words.step_cntl1) l.page
