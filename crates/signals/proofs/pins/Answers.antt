use Rattle.std.proofs.Common.{rules, tests, ◌≡◌, option_map, add-one, arith}
use Rattle.text.proofs.PlacingLaws.{also, nothing}
use Rattle.words.specs.Field.{bit_of}
use Rattle.signals.specs.Signals.{pin_values}
use Rattle.signals.proofs.SignalsLaws.{bit_at, mapped}
use Rattle.signals.proofs.pins.Goals as goal

pub loop-c-init : goal.loop-c-init
unfolding pin_values
loop-c-init c = nothing _

pub loop-c-preserved : goal.loop-c-preserved
unfolding pin_values
loop-c-preserved c =
    let l = c.loop-c in
    let old : c.map-old_pin.result ≡ option_map (λ o. bit_of o l.c-counter) c.args.old =
    mapped c.args.old c.map-old_pin.result (λ o. bit_of o l.c-counter) _ (λ x y p. bit_at x l.c-counter y (omega arith) (search (rules, tests))) c.map-old_pin.ensures.cases in
    rw (add-one, ← old, ← bit_at _ l.c-counter _ (omega arith) c.bit.ensures) (also l.invariant c.wire_value.ensures)
