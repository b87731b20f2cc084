use mathlib.Core.Path.{◌∙◌}
use Rattle.unit.specs.OneTick.{clocked}
use Rattle.matching.proofs.clocked.Goals as goal

pub returns : goal.returns
unfolding clocked
returns c =
    c.put_slots.ensures ∙ rw (c.ticked.ensures, c.slots-slots.ensures, c.put_timers.ensures, c.onward-timers.ensures, c.timers.ensures)
