use Prim.Native.Nat.{ℕ}
use mathlib.Core.Logic.{◌≢◌, ⊎_elim}
use mathlib.Core.Path.{◌≡◌, refl}
use Rattle.motor.specs.declared.Phase.{Phase}
use Rattle.motor.specs.declared.Phase.TheVariants.{Resting, Requested, Armed, Matched}
use Rattle.unit.specs.declared.State.{State}
use Rattle.unit.specs.OneTick.{step_request}
use Rattle.words.proofs.ChoiceLaws.{not-both}
use Rattle.service.proofs.step_request.Goals as goal
use Rattle.service.proofs.step_request.Goals.{in-Resting, in_default}

-- a group that is stepping goes on
goes-on : (p : Phase) (c : ℕ) (s : State) → p ≢ Resting → p ≢ Requested → s ≡ step_request p c s
unfolding step_request
goes-on Resting c s n m = absurd (n refl)
goes-on Requested c s n m = absurd (m refl)
goes-on (Armed t) c s n m = refl
goes-on (Matched t r) c s n m = refl

pub returns-then-matches : goal.returns-then-matches
unfolding step_request
returns-then-matches c =
    elim c.match-matches.branch [
      | in-Resting w ↦ ⊎_elim (λ (x : c.args.p ≡ Resting). rw x c.tested.ensures) (λ (x : c.args.p ≡ Requested). rw x c.tested.ensures) w.in-Resting.is
      | in_default w ↦ absurd (not-both c.if-matches.true w.matches-is)
    ]

pub returns-else-matches : goal.returns-else-matches
returns-else-matches c =
    elim c.match-matches.branch [
      | in-Resting w ↦ absurd (not-both w.matches-is c.if-matches.false)
      | in_default w ↦ goes-on _ _ _ w.in_default.not-Resting w.in_default.not-Requested
    ]
