use mathlib.Core.Path.{◌∙◌}
use Rattle.unit.specs.TheUnit.{channel_control, pin_control}
use Rattle.unit.specs.Stepping.{prepared}
use Rattle.stepping.proofs.prepared.Goals as goal

pub returns : goal.returns
unfolding prepared channel_control pin_control
returns c =
    c.put_level.ensures ∙ rw (c.bit.ensures, c.put_word.ensures, c.reloaded-w.ensures, c.word-2.ensures, c.turned_once-x.ensures, c.word.ensures)
