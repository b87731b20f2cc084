use Prim.Native.Nat.{ℕ}
use mathlib.Core.Logic.{◌≢◌}
use mathlib.Core.Path.{◌≡◌, refl, ◌∙◌}
use Rattle.motor.specs.declared.Phase.{Phase}
use Rattle.motor.specs.declared.Phase.TheVariants.{Resting, Requested, Armed, Matched}
use Rattle.unit.specs.declared.State.{State}
use Rattle.unit.specs.OneTick.{match_served}
use Rattle.service.proofs.match_served.Goals as goal

-- where no match has happened there is nothing to serve
unmatched : (p : Phase) (c : ℕ) (s : State) → ((n t : ℕ) → p ≢ Matched n t) → s ≡ match_served p c s
unfolding match_served
unmatched Resting c s n = refl
unmatched Requested c s n = refl
unmatched (Armed t) c s n = refl
unmatched (Matched t r) c s n = absurd (n t r refl)

pub returns-in-Matched : goal.returns-in-Matched
unfolding match_served
returns-in-Matched c =
    rw c.in-Matched.is (c.outcome.ensures ∙ rw (c.on_match-o.ensures, c.motor_of.ensures, c.put_late.ensures, c.past-t.ensures, c.time_for-now.ensures))

pub returns-in_default : goal.returns-in_default
returns-in_default c = unmatched _ _ _ (λ n t e. c.in_default.not-Matched n t e)
