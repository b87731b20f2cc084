-- The numbers of a motor sheet: which are taken, and their counts. Floats are compared and divided as the machine
-- does it.
use Rattle.std.specs.Prelude.{ℕ, ◌≤◌, ◌≡◌, Bool, false, not, ◌&&◌, pos, leb, Option, Some, Float}
use Rattle.std.specs.Float.{fin, inf, binary64}
use Rattle.std.specs.Float.Ieee.{lt, le, div}
use Rattle.nearest.specs.Counting.{count_of}

-- 0.0, 1000.0 (125 * 2 ^ 3) and infinity
abbrev pub nothing : Float
nothing = fin false 0 (pos 0)

abbrev pub thousand : Float
thousand = fin false 125 (pos 3)

abbrev pub infinity : Float
infinity = inf false

-- N
unfoldable pub is_rate_count : ℕ → Bool
is_rate_count n = leb 1 n && leb n 14

-- finite and above zero
unfoldable pub is_positive : Float → Bool
is_positive x = lt nothing x && lt x infinity

-- a difference may be zero too, of either sign
unfoldable pub is_difference : Float → Bool
is_difference x = le nothing x && lt x infinity

-- the top speed is not below the slowest
unfoldable pub is_speedup : Float → Float → Bool
is_speedup slow fast = not (lt fast slow)

-- ---- their counts

-- a time in milliseconds over the tick length, one division, and the nearest whole number
unfoldable pub period_count : Float → Float → Option ℕ
period_count period tick = count_of (div binary64 period tick)

-- a speed's period is 1000 over the speed first
unfoldable pub speed_count : Float → Float → Option ℕ
speed_count speed tick = period_count (div binary64 thousand speed) tick

-- the second of two counts is not the larger
abbrev pub InOrder : Option ℕ → Option ℕ → Type 0
InOrder first last = (p q : ℕ) → first ≡ Some p → last ≡ Some q → q ≤ p
