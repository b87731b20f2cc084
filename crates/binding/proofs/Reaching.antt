-- A phase that is not at rest is bound.
use mathlib.Core.Bool.{true}
use mathlib.Core.Path.{◌≡◌, refl}
use mathlib.Core.Logic.{◌≢◌}
use Rattle.motor.specs.declared.Phase.{Phase}
use Rattle.motor.specs.declared.Phase.TheVariants.{Resting, Requested, Armed, Matched}
use Rattle.motor.specs.Group.{bound}

pub bound_else : (p : Phase) → p ≢ Resting → bound p ≡ true
unfolding bound
bound_else Resting n = absurd (n refl)
bound_else Requested n = refl
bound_else (Armed t) n = refl
bound_else (Matched t r) n = refl
