use Prim.Native.Nat.{ℕ}
use mathlib.Core.Logic.{◌≢◌}
use mathlib.Core.Path.{◌≡◌, refl}
use Rattle.words.specs.declared.Timer.{Timer}
use Rattle.words.specs.declared.Timers.{Timers}
use Rattle.motor.specs.declared.Phase.{Phase}
use Rattle.motor.specs.declared.Phase.TheVariants.{Resting, Requested, Armed, Matched}
use Rattle.unit.specs.Quiet.{waits}
use Rattle.quiet.proofs.waits.Goals as goal

-- where no match is set an advance goes as far as it can
unarmed : (p : Phase) (k : Timer) (t : Timers) → ((n : ℕ) → p ≢ Armed n) → 4096 ≡ waits p k t
unfolding waits
unarmed Resting k t n = refl
unarmed Requested k t n = refl
unarmed (Armed x) k t n = absurd (n x refl)
unarmed (Matched x y) k t n = refl

pub returns-in-Armed : goal.returns-in-Armed
unfolding waits
returns-in-Armed c = rw (c.until_due.ensures, c.in-Armed.is)

pub returns : goal.returns
returns c = unarmed _ _ _ c.in_default.not-Armed
