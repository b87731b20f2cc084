-- That a count is the nearest whole number, and when there is none. A value is m * up e / down e, and a half of 1 is down e / 2.
use Rattle.std.specs.Prelude.{ℕ, ◌+◌, ◌*◌, ◌≤◌, ◌<◌, Bool, true, false, not, ◌≡◌, ℤ, T, leb, Option, Some, None, Float}
use Rattle.std.specs.Float.{nan, inf, fin}
use Rattle.std.specs.Float.Ieee.{up, down, le}
use Rattle.floats.specs.Plain.{is_plain}
use Rattle.nearest.specs.Counting.{count_of}

abbrev pub is_outside : Option ℕ → Bool
is_outside (Some k) = false
is_outside None = true

pub record Nearest : Type 0 where
  -- a value with the count k lies from k - 1/2 on, and below k + 1/2
  pub within : (m : ℕ) (e : ℤ) (k : ℕ) → count_of (fin false m e) ≡ Some k → (2 * k * down e ≤ 2 * (m * up e) + down e) × (2 * (m * up e) + down e < 2 * (k + 1) * down e)
  -- a count is at most $7FFF, and a value is outside exactly from $7FFF + 1/2 on
  pub up_to : (x : Float) (k : ℕ) → count_of x ≡ Some k → k ≤ 0x7fff
  pub far : (m : ℕ) (e : ℤ) → is_outside (count_of (fin false m e)) ≡ leb (65535 * down e) (2 * (m * up e))
  -- below zero only 0 is left, exactly down to -1/2
  pub below : (m : ℕ) (e : ℤ) (k : ℕ) → count_of (fin true m e) ≡ Some k → (k ≡ 0) × (2 * (m * up e) ≤ down e)
  pub under : (m : ℕ) (e : ℤ) → is_outside (count_of (fin true m e)) ≡ not (leb (2 * (m * up e)) (down e))
  pub none : (is_outside (count_of nan) ≡ true) × ((s : Bool) → is_outside (count_of (inf s)) ≡ true)
  -- a larger number's count is not smaller
  pub ordered : (x y : Float) (p q : ℕ) → T (is_plain x) → T (is_plain y) → T (le x y) → count_of x ≡ Some p → count_of y ≡ Some q → p ≤ q
