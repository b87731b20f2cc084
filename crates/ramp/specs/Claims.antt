-- Which ramps are taken, with which words, and how those run.
use Rattle.std.specs.Prelude.{ℕ, ◌+◌, ◌-◌, ◌*◌, ◌≤◌, ◌<◌, ◌≡◌, ◌↔◌, true, false, Some, Err, Float}
use Rattle.std.specs.Float.{binary64}
use Rattle.std.specs.Float.Ieee.{lt, div}
use Rattle.motor.specs.Stepping.{period}
use Rattle.unit.specs.Gate.{ramp_good}
use Rattle.nearest.specs.Counting.{count_of}
use Rattle.sheet.specs.Numbers.{thousand, period_count, speed_count}
use Rattle.sheet.specs.Claims.{AboveZero, NotBelowZero}
use Rattle.ramp.specs.declared.Ramp.{Ramp}
use Rattle.ramp.specs.declared.Ramp.TheVariants.{Periods, Speeds}
use Rattle.ramp.specs.declared.CannotRun.{CannotRun}
use Rattle.ramp.specs.Sheet.{taken_with, refused, refusal_number, counts_of}

-- ---- which are taken: what the refusals leave, as numbers

-- N, and the words that P(1) and STEP_CNTL0 make
pub record WordsRun (n p cntl0 cntl1 : ℕ) : Type 0 where
  pub rates : (1 ≤ n) × (n ≤ 14)
  pub sum : cntl1 ≡ p + 2 * cntl0
  pub word : cntl1 ≤ 0xffff
  -- question 8: P(N) is at least 1, P(1) at most $7FFF
  pub last : cntl0 * (1 + n) < cntl1
  pub first : cntl1 ≤ cntl0 * 2 + 0x7fff

-- a count of a period: the quotient's nearest whole number (claim `Nearest`), from 1 to $7FFF
abbrev pub IsPeriod : Float → ℕ → Type 0
IsPeriod quotient p = (count_of quotient ≡ Some p) × (1 ≤ p) × (p ≤ 0x7fff)

-- periods: the slowest, the difference between neighbours
pub record PeriodsRun (slow difference tick : Float) (n cntl0 cntl1 : ℕ) : Type 0 where
  pub slow-above : AboveZero slow
  pub difference-not-below : NotBelowZero difference
  pub tick-above : AboveZero tick
  pub p : ℕ
  pub slowest : IsPeriod (div binary64 slow tick) p
  pub step : (count_of (div binary64 difference tick) ≡ Some cntl0) × (cntl0 ≤ 0x7fff)
  pub words : WordsRun n p cntl0 cntl1

-- speeds: the slowest, the fastest. STEP_CNTL0 is the whole number nearest to (p - q) / (n - 1), halves upward; p - q does not go below 0
-- (claim `Faster`).
pub record SpeedsRun (slow fast tick : Float) (n cntl0 cntl1 : ℕ) : Type 0 where
  pub slow-above : AboveZero slow
  pub fast-above : AboveZero fast
  pub tick-above : AboveZero tick
  pub in_order : lt fast slow ≡ false
  pub p : ℕ
  pub q : ℕ
  pub slowest : IsPeriod (div binary64 (div binary64 thousand slow) tick) p
  pub fastest : IsPeriod (div binary64 (div binary64 thousand fast) tick) q
  pub one-rate : n ≡ 1 → cntl0 ≡ 0
  pub step : 2 ≤ n → (2 * cntl0 * (n - 1) ≤ 2 * (p - q) + (n - 1)) × (2 * (p - q) + (n - 1) < 2 * (cntl0 + 1) * (n - 1))
  pub words : WordsRun n p cntl0 cntl1

-- the ramp may run with these two words
abbrev pub MayRun : Ramp → Float → ℕ → ℕ → ℕ → Type 0
MayRun (Periods slow difference) tick n cntl0 cntl1 = PeriodsRun slow difference tick n cntl0 cntl1
MayRun (Speeds slow fast) tick n cntl0 cntl1 = SpeedsRun slow fast tick n cntl0 cntl1

-- ---- how a taken ramp runs, P(r) being the motor's `period`

-- periods: P(1) is the slowest's count, and from rate to rate it falls by the difference's
pub record Steady (slow difference tick : Float) (cntl0 cntl1 : ℕ) : Type 0 where
  pub slowest : period_count slow tick ≡ Some (period cntl0 cntl1 1)
  pub step : period_count difference tick ≡ Some cntl0

-- speeds: P(1) is the slowest's count, and with N = 1 nothing falls. From N = 2 on, P(N) is the fastest's to within (N - 1) / 2: that
-- much can come of rounding STEP_CNTL0
pub record Between (slow fast tick : Float) (n cntl0 cntl1 : ℕ) : Type 0 where
  pub slowest : speed_count slow tick ≡ Some (period cntl0 cntl1 1)
  pub one-rate : n ≡ 1 → cntl0 ≡ 0
  pub last : ℕ
  pub fastest : speed_count fast tick ≡ Some last
  pub near : 2 ≤ n → (2 * last ≤ 2 * period cntl0 cntl1 n + (n - 1)) × (2 * period cntl0 cntl1 n ≤ 2 * last + (n - 1))

abbrev pub Runs : Ramp → Float → ℕ → ℕ → ℕ → Type 0
Runs (Periods slow difference) tick n cntl0 cntl1 = Steady slow difference tick cntl0 cntl1
Runs (Speeds slow fast) tick n cntl0 cntl1 = Between slow fast tick n cntl0 cntl1

-- ---- for every ramp, tick length and N

pub record Ramps : Type 0 where
  -- taken with two words exactly where it may run with them
  pub taken : (ramp : Ramp) (tick : Float) (n cntl0 cntl1 : ℕ) → counts_of ramp tick n ≡ taken_with cntl0 cntl1 ↔ MayRun ramp tick n cntl0 cntl1
  -- refused exactly where there are no such words, and with the number 11
  pub refused : (ramp : Ramp) (tick : Float) (n : ℕ) → counts_of ramp tick n ≡ refused ↔ ((cntl0 cntl1 : ℕ) → MayRun ramp tick n cntl0 cntl1 → ⊥)
  pub eleven : (ramp : Ramp) (tick : Float) (n : ℕ) (refusal : CannotRun) → counts_of ramp tick n ≡ Err refusal → refusal_number refusal ≡ 11
  -- the gate's question 8 takes the words, and this is how they run
  pub runs : (ramp : Ramp) (tick : Float) (n cntl0 cntl1 : ℕ) → counts_of ramp tick n ≡ taken_with cntl0 cntl1 → (ramp_good cntl0 cntl1 n ≡ true) × Runs ramp tick n cntl0 cntl1
