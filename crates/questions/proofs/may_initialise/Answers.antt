use Rattle.unit.specs.TheUnit.{channel_control, pin_control}
use Rattle.unit.specs.Gate.{may_initialise}
use Rattle.questions.proofs.may_initialise.Goals as goal
use Rattle.questions.proofs.may_initialise.Goals.{then-bit, else-bit}

pub returns-then-is_timed : goal.returns-then-is_timed
unfolding may_initialise channel_control pin_control
returns-then-is_timed c =
    rw (← c.word-control.ensures, ← c.is_timed.ensures, c.if-is_timed.true, ← c.word.ensures, ← c.bit.ensures)
    (elim c.if-bit.branch [ then-bit w ↦ rw (w.forced-is, c.pair.ensures, w.if-bit.true) | else-bit w ↦ rw (w.forced-is, c.pair.ensures, w.if-bit.false) ])

pub returns-else-is_timed : goal.returns-else-is_timed
unfolding may_initialise channel_control pin_control
returns-else-is_timed c = rw (← c.word-control.ensures, ← c.is_timed.ensures, c.if-is_timed.false)
