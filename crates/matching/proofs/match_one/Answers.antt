use Prim.Native.Nat.{ℕ}
use mathlib.Core.Logic.{◌≢◌}
use mathlib.Core.Path.{◌≡◌, refl}
use Rattle.motor.specs.declared.Phase.{Phase}
use Rattle.motor.specs.declared.Phase.TheVariants.{Resting, Requested, Armed, Matched}
use Rattle.unit.specs.declared.State.{State}
use Rattle.unit.specs.OneTick.{match_of, matched}
use Rattle.matching.proofs.match_one.Goals as goal

-- where no match is set nothing happens
unarmed : (p : Phase) (c : ℕ) (s : State) → ((t : ℕ) → p ≢ Armed t) → s ≡ match_of p c s
unfolding match_of
unarmed Resting c s n = refl
unarmed Requested c s n = refl
unarmed (Armed t) c s n = absurd (n t refl)
unarmed (Matched t r) c s n = refl

pub returns-in-Armed : goal.returns-in-Armed
unfolding matched
returns-in-Armed c = rw (← c.phase.ensures, c.in-Armed.is) c.armed.ensures

pub returns-in_default : goal.returns-in_default
unfolding matched
returns-in_default c = rw (← c.phase.ensures) (unarmed _ _ _ (λ t e. c.in_default.not-Armed t e))
