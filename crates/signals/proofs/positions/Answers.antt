use Rattle.std.proofs.Common.{rules, tests, ◌≡◌, ℕ, List, Bor, option_map, add-one}
use Rattle.text.proofs.PlacingLaws.{also, nothing}
use Rattle.pack.specs.Packing.{state_in}
use Rattle.signals.specs.Signals.{position_of, position_values}
use Rattle.signals.proofs.SignalsLaws.{mapped, fused}
use Rattle.signals.proofs.positions.Goals as goal

pub loop-c-init : goal.loop-c-init
unfolding position_values
loop-c-init c = nothing _

pub loop-c-preserved : goal.loop-c-preserved
unfolding position_values
loop-c-preserved c =
    let l = c.loop-c in
    let state = λ (o : Bor (List ℕ)). state_in o.now in
    let old : c.map-old_position.result ≡ option_map (λ o. position_of (state o) l.c-counter) c.args.old =
    mapped c.args.old c.map-old_position.result (λ o. position_of (state o) l.c-counter) _ (λ x y p. search (rules, tests)) c.map-old_position.ensures.cases in
    rw (add-one, ← c.position_of.ensures, fused state _ c.args.old, ← old) (also l.invariant c.vector_value.ensures)
