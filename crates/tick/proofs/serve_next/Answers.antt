use mathlib.Core.Path.{◌∙◌}
use Rattle.slots.proofs.Within.{one-service}
use Rattle.unit.specs.OneTick.{slot_served}
use Rattle.tick.proofs.ReadyLaws.{picked}
use Rattle.tick.proofs.serve_next.Goals as goal

pub invariant_of-serve : goal.invariant_of-serve
invariant_of-serve c =
    record { in_range = one-service.sixteen _ _ _ _ (picked _ _ _ _ c.slots-slots.ensures c.ready.ensures c.choose.ensures ∙ c.in-Some.is) }

pub returns-in-Some : goal.returns-in-Some
unfolding slot_served
returns-in-Some c =
    let e = picked _ _ _ _ c.slots-slots.ensures c.ready.ensures c.choose.ensures ∙ c.in-Some.is in
    rw e (c.serve.ensures ∙ rw c.put_slots.ensures)

pub returns-in_default : goal.returns-in_default
unfolding slot_served
returns-in_default c =
    let e = picked _ _ _ _ c.slots-slots.ensures c.ready.ensures c.choose.ensures ∙ c.in_default.is in
    rw e
