-- Paper 02, #106: the two timers, about whatever happens from reset on. The claim: `TimersCount`.
use Rattle.std.specs.Prelude.{ℕ, suc, ◌/◌, ◌%◌, List, [], ◌∷◌, ◌≡◌}
use Rattle.words.specs.declared.Timers.{Timers}
use Rattle.unit.specs.TheUnit.{reset_state}
use Rattle.history.specs.Moments.{Act, Ticks, Writes, Nothing, through}

-- how many ticks are among them
unfoldable pub ticks_among : List Act → ℕ
ticks_among [] = 0
ticks_among (Ticks ∷ xs) = suc (ticks_among xs)
ticks_among (Writes a v ∷ xs) = ticks_among xs
ticks_among (Nothing ∷ xs) = ticks_among xs

-- the timers n ticks after reset: TCR2 rises in every eighth
abbrev pub at_tick : ℕ → Timers
at_tick n = record { tcr1 = n % 65536; tcr2 = n / 8 % 65536 }

-- they count the ticks, whatever else happens
abbrev pub TimersCount : Type 0
TimersCount = (xs : List Act) → (through reset_state xs).timers ≡ at_tick (ticks_among xs)
