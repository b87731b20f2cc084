use Rattle.std.proofs.Common.{refl}
use Rattle.text.specs.Ascii.{ascii}
use Rattle.script.specs.Replying.{state_by, ticks_by}
use Rattle.drawing.specs.Drawing.{drawing_by, seen_by}
use Rattle.drawing.proofs.Recorder.carry_out.Goals as goal

pub returns-in-None : goal.returns-in-None
unfolding state_by ticks_by seen_by drawing_by ascii
returns-in-None c = rw c.in-None.is (record { state = refl; ticks = refl; seen = refl; drawn = c.text.ensures })
