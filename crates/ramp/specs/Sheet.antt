-- The two words of a ramp from the motor maker's sheet.
use Rattle.std.specs.Prelude.{ℕ, ◌+◌, ◌-◌, ◌*◌, leb, Option, Some, None, Result, Ok, Err, Float}
use Rattle.words.specs.Choice.{pick, ask}
use Rattle.unit.specs.Gate.{ramp_good}
use Rattle.nearest.specs.Counting.{half_up}
use Rattle.sheet.specs.Numbers.{is_rate_count, is_positive, is_difference, is_speedup, period_count, speed_count}
use Rattle.ramp.specs.declared.Ramp.{Ramp}
use Rattle.ramp.specs.declared.Ramp.TheVariants.{Periods, Speeds}
use Rattle.ramp.specs.declared.Controls.{Controls}
use Rattle.ramp.specs.declared.CannotRun.{CannotRun}

-- ---- the answer

-- what is taken has STEP_CNTL0 and STEP_CNTL1, and every other ramp has the one refusal, whichever test it comes from
abbrev pub Answer : Type 0
Answer = Result Controls CannotRun

abbrev pub taken_with : ℕ → ℕ → Answer
taken_with cntl0 cntl1 = Ok (record { step_cntl0 = cntl0; step_cntl1 = cntl1 })

abbrev pub refused : Answer
refused = Err (record {})

-- the number of the refusal
abbrev pub refusal_number : CannotRun → ℕ
refusal_number refusal = 11

-- an answer in numbers: that of the refusal, 0 where the ramp is taken, and the two words, 0 where there are none
abbrev pub number_of : Answer → ℕ
number_of (Ok controls) = 0
number_of (Err refusal) = refusal_number refusal

abbrev pub cntl0_of : Answer → ℕ
cntl0_of (Ok controls) = controls.step_cntl0
cntl0_of (Err refusal) = 0

abbrev pub cntl1_of : Answer → ℕ
cntl1_of (Ok controls) = controls.step_cntl1
cntl1_of (Err refusal) = 0

-- ---- the two words

-- STEP_CNTL0 for speeds: the fall of the periods from rate 1 to rate n, shared out over the n - 1 rates between; 0 for n = 1
unfoldable pub slope : ℕ → ℕ → ℕ → ℕ
slope p q n = pick (leb n 1) 0 (half_up (p - q) (n - 1))

-- from P(1) and STEP_CNTL0: STEP_CNTL1 fits its word, and question 8 takes the ramp
unfoldable pub words_of : ℕ → ℕ → ℕ → Answer
words_of p cntl0 n =
    ask (leb (p + 2 * cntl0) 0xffff) refused (ask (ramp_good cntl0 (p + 2 * cntl0) n) refused (taken_with cntl0 (p + 2 * cntl0)))

-- by the counts of the slowest period, which is not 0, and of the difference, which may be
unfoldable pub steps_of : Option ℕ → Option ℕ → ℕ → Answer
steps_of None difference n = refused
steps_of (Some p) None n = refused
steps_of (Some p) (Some d) n = ask (leb 1 p) refused (words_of p d n)

-- by the counts of the periods at rate 1 and at rate n, neither of them 0
unfoldable pub ends_of : Option ℕ → Option ℕ → ℕ → Answer
ends_of None last n = refused
ends_of (Some p) None n = refused
ends_of (Some p) (Some q) n = ask (leb 1 p) refused (ask (leb 1 q) refused (words_of p (slope p q n) n))

-- ---- the call

unfoldable pub periods_of : Float → Float → Float → ℕ → Answer
periods_of slow difference tick n =
    ask (is_positive slow) refused (ask (is_difference difference) refused (steps_of (period_count slow tick) (period_count difference tick) n))

unfoldable pub speeds_of : Float → Float → Float → ℕ → Answer
speeds_of slow fast tick n =
    ask (is_positive slow) refused
    (ask (is_positive fast) refused
    (ask (is_speedup slow fast) refused (ends_of (speed_count slow tick) (speed_count fast tick) n)))

abbrev pub by_kind : Ramp → Float → ℕ → Answer
by_kind (Periods slow difference) tick n = periods_of slow difference tick n
by_kind (Speeds slow fast) tick n = speeds_of slow fast tick n

unfoldable pub counts_of : Ramp → Float → ℕ → Answer
counts_of ramp tick n = ask (is_rate_count n) refused (ask (is_positive tick) refused (by_kind ramp tick n))
