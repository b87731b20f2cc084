use mathlib.Core.Path.{◌∙◌}
use Rattle.unit.specs.TheUnit.{channel_control, pin_control}
use Rattle.unit.specs.OneTick.{initialise}
use Rattle.service.proofs.initialise.Goals as goal

pub returns : goal.returns
unfolding initialise channel_control pin_control
returns c =
    c.put_status.ensures ∙ rw (c.set_up.ensures, c.kind_in.ensures, c.put_word.ensures, c.put_pin.ensures, c.pair.ensures, c.word-pattern.ensures, c.word-control.ensures)
