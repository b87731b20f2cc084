-- What holds of the numbers of a sheet, and of the counts of two speeds.
use Rattle.std.specs.Prelude.{ℕ, ◌≤◌, ◌<◌, ◌≡◌, ◌↔◌, true, false, Float}
use Rattle.std.specs.Float.{nan, inf, fin}
use Rattle.std.specs.Float.Ieee.{lt}
use Rattle.sheet.specs.Numbers.{is_rate_count, is_positive, is_difference, is_speedup, speed_count, InOrder}

-- finite and above zero, `fin sign m e` being m * 2 ^ e, below zero where the sign is set
abbrev pub AboveZero : Float → Type 0
AboveZero nan = ⊥
AboveZero (inf sign) = ⊥
AboveZero (fin true m e) = ⊥
AboveZero (fin false m e) = 0 < m

-- finite and not below zero: with the sign set only -0.0 is
abbrev pub NotBelowZero : Float → Type 0
NotBelowZero nan = ⊥
NotBelowZero (inf sign) = ⊥
NotBelowZero (fin true m e) = m ≡ 0
NotBelowZero (fin false m e) = 0 ≤ m

-- what each test of a sheet's number takes, for every number
pub record Takes : Type 0 where
  pub rates : (n : ℕ) → is_rate_count n ≡ true ↔ (1 ≤ n) × (n ≤ 14)
  pub positive : (x : Float) → is_positive x ≡ true ↔ AboveZero x
  pub difference : (x : Float) → is_difference x ≡ true ↔ NotBelowZero x
  pub speedup : (slow fast : Float) → is_speedup slow fast ≡ true ↔ lt fast slow ≡ false

-- the count of a faster speed is never larger, so that no difference of counts goes below zero
abbrev pub Faster : Type 0
Faster = (slow fast tick : Float) → is_positive slow ≡ true → is_positive fast ≡ true → is_positive tick ≡ true → is_speedup slow fast ≡ true → InOrder (speed_count slow tick) (speed_count fast tick)
