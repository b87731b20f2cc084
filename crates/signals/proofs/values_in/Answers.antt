use Rattle.std.proofs.Common.{rules, tests, ◌≡◌, Some, ℕ, List, Bor, option_map, sym, ◌∙◌}
use Rattle.unit.specs.declared.State.{State}
use Rattle.unit.specs.TheUnit.{interrupt_line}
use Rattle.pack.specs.Packing.{state_in}
use Rattle.text.proofs.PlacingLaws.{also}
use Rattle.signals.specs.Signals.{values}
use Rattle.signals.proofs.SignalsLaws.{mapped, fused}
use Rattle.signals.proofs.values_in.Goals as goal

pub returns : goal.returns
unfolding values
returns c =
    let old = c.args.old in
    let state = λ (o : Bor (List ℕ)). state_in o.now in
    let pins : c.map-old_pins.result ≡ option_map (λ (s : State). s.pins) (option_map state old) =
    mapped old c.map-old_pins.result (λ o. (state o).pins) _ (λ x y p. search (rules, tests)) c.map-old_pins.ensures.cases
    ∙ sym (fused state (λ (s : State). s.pins) old) in
    let tcr1 : c.map-old_tcr1.result ≡ option_map (λ (s : State). Some s.timers.tcr1) (option_map state old) =
    mapped old c.map-old_tcr1.result (λ o. Some (state o).timers.tcr1) _ (λ x y p. search (rules, tests)) c.map-old_tcr1.ensures.cases
    ∙ sym (fused state (λ (s : State). Some s.timers.tcr1) old) in
    let line : c.map-old_line.result ≡ option_map interrupt_line (option_map state old) =
    mapped old c.map-old_line.result (λ o. interrupt_line (state o)) _ (λ x y p. search (rules, tests)) c.map-old_line.ensures.cases
    ∙ sym (fused state interrupt_line old) in
    rw (← pins, ← tcr1, ← line, ← c.interrupt_line.ensures)
    (also (rw c.pins-new_pins.ensures at c.pins.ensures)
    (also (rw c.timers-timers.ensures at c.vector_value.ensures) (also c.positions.ensures c.wire_value.ensures)))
