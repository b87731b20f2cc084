use Rattle.std.proofs.Common.{◌-◌, add-one, arith}
use Rattle.text.proofs.PlacingLaws.{also, nothing}
use Rattle.signals.specs.Signals.{binary}
use Rattle.signals.proofs.SignalsLaws.{level, bit_at}
use Rattle.signals.proofs.binary.Goals as goal

pub loop-k-init : goal.loop-k-init
unfolding binary
loop-k-init c = nothing _

pub loop-k-preserved : goal.loop-k-preserved
unfolding binary
loop-k-preserved c =
    let l = c.loop-k in
    rw (add-one, ← bit_at _ (15 - l.k) _ (omega arith) c.bit.ensures, ← level c.bit.result, ← c.from.ensures)
    (also l.invariant c.decimal.ensures)
