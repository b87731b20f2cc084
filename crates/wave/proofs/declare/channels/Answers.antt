use Rattle.std.proofs.Common.{add-one}
use Rattle.text.proofs.PlacingLaws.{also, nothing}
use Rattle.wave.specs.Header.{declarations}
use Rattle.wave.proofs.declare.channels.Goals as goal

pub loop-c-init : goal.loop-c-init
unfolding declarations
loop-c-init c = nothing _

pub loop-c-preserved : goal.loop-c-preserved
unfolding declarations
loop-c-preserved c = rw add-one (also c.loop-c.invariant (rw c.from.ensures at c.signal.ensures))
