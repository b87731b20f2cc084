-- The timers count the ticks since reset: `timers-count`.
use Prim.Native.Nat.{ℕ, ◌+◌, ◌%◌}
use native.Mathlib.Omega.{arith}
use mathlib.Core.List.{List, [], ◌∷◌}
use mathlib.Core.Path.{◌≡◌, refl, ap, ◌∙◌}
use Rattle.words.specs.declared.Timers.{Timers}
use Rattle.words.specs.Clock.{later, onward}
use Rattle.unit.specs.declared.State.{State}
use Rattle.unit.specs.TheUnit.{reset_state}
use Rattle.unit.specs.OneTick.{tick}
use Rattle.unit.proofs.Passing.{tick-timers}
use Rattle.history.specs.Moments.{Act, Ticks, Writes, Nothing, does, through}
use Rattle.history.specs.Timers.{ticks_among, at_tick, TimersCount}
use Rattle.history.proofs.Leaves.{writes-leave}

same-timers : (a b : Timers) → a.tcr1 ≡ b.tcr1 → a.tcr2 ≡ b.tcr2 → a ≡ b
same-timers a b e f = λ i. record { tcr1 = e i; tcr2 = f i }

low_bits : (n : ℕ) → n % 65536 % 8 ≡ n % 8
low_bits n = omega arith

next-tick : (n : ℕ) → onward 1 (at_tick n) ≡ at_tick (n + 1)
unfolding onward later
next-tick n = same-timers (onward 1 (at_tick n)) (at_tick (n + 1)) (omega arith) (rw (low_bits n) (omega arith))

from-there : (xs : List Act) (s : State) (n : ℕ) → s.timers ≡ at_tick n → (through s xs).timers ≡ at_tick (n + ticks_among xs)
unfolding through does ticks_among
from-there [] s n e = e ∙ ap at_tick (omega arith)
from-there (Ticks ∷ xs) s n e = from-there xs (tick s) (n + 1) (tick-timers s ∙ (ap (onward 1) e ∙ next-tick n)) ∙ ap at_tick (omega arith)
from-there (Writes a v ∷ xs) s n e = from-there xs _ n (writes-leave.clock s a v ∙ e)
from-there (Nothing ∷ xs) s n e = from-there xs s n e

pub timers-count : TimersCount
timers-count xs = from-there xs reset_state 0 refl ∙ ap at_tick (omega arith)
