use Rattle.std.proofs.Common.{refl}
use Rattle.script.specs.Replying.{state_by, ticks_by, reply_by}
use Rattle.script.proofs.Bench.carry_out.Goals as goal

pub returns-in-None : goal.returns-in-None
unfolding state_by ticks_by reply_by
returns-in-None c = rw c.in-None.is (record { state = refl; ticks = refl; reply = c.text.ensures })
