use Rattle.ramp_lines.specs.Replying.{periods_to}
use Rattle.text.proofs.PlacingLaws.{nothing}
use Rattle.ramp_lines.proofs.ReplyingLaws.{next-period}
use Rattle.ramp_lines.proofs.print.periods.Goals as goal

pub loop-r-init : goal.loop-r-init
unfolding periods_to
loop-r-init c = nothing _

pub loop-r-preserved : goal.loop-r-preserved
loop-r-preserved c =
    next-period c.loop-r.r _ _ _ (rw c.from.ensures at c.period-p.ensures) c.loop-r.invariant (rw c.from-in-loop-r.ensures at c.number.ensures)
