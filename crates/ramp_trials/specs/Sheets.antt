-- Ramps of a sheet and what they come to, as one table.
use Rattle.std.specs.Prelude.{ℕ, Bool, true, false, ◌&&◌, List, [], ◌∷◌, ◌++◌, ◌≡◌, eqb, Option, Some, None, Ok, Err, Float}
use Prim.Native.String.{String}
use Rattle.std.specs.Float.{nan, inf, binary64}
use Rattle.std.specs.Float.Ieee.{neg, of_bits}
use Rattle.text.specs.Ascii.{ascii}
use Rattle.numeral.specs.Decimal.{decimal_of}
use Rattle.ramp.specs.declared.Ramp.{Ramp}
use Rattle.ramp.specs.declared.Ramp.TheVariants.{Periods, Speeds}
use Rattle.ramp.specs.Sheet.{Answer, taken_with, refused, refusal_number, counts_of}

-- a ramp, the tick length, N, and the answer
pub data Row : Type 0 where
  row : Ramp → Float → ℕ → Answer → Row

unfoldable pub is_answer : Answer → Answer → Bool
is_answer (Ok a) (Ok b) = eqb a.step_cntl0 b.step_cntl0 && eqb a.step_cntl1 b.step_cntl1
is_answer (Ok a) (Err k) = false
is_answer (Err k) (Ok a) = false
is_answer (Err k) (Err j) = eqb (refusal_number k) (refusal_number j)

unfoldable pub is_right : Row → Bool
is_right (row sheet tick n answer) = is_answer (counts_of sheet tick n) answer

unfoldable pub all_right : List Row → Bool
all_right [] = true
all_right (r ∷ rest) = is_right r && all_right rest

-- a number as the sheet prints it
abbrev pub value_in : Option Float → Float
value_in (Some x) = x
value_in None = nan

unfoldable pub d : String → Float
d text = value_in (decimal_of (ascii text))

-- one that no short text is
unfoldable pub bits : ℕ → Float
bits b = of_bits binary64 b

-- a row for each of some numbers
unfoldable pub for_each : List Float → (Float → Row) → List Row
for_each [] f = []
for_each (x ∷ rest) f = f x ∷ for_each rest f

-- not finite, or not above zero: refused wherever they stand
unfoldable pub no_positive : List Float
no_positive = nan ∷ inf false ∷ inf true ∷ d "0" ∷ neg (d "0") ∷ neg (d "4.0") ∷ []

unfoldable pub not_positive : List Row
not_positive =
    for_each no_positive (λ x. row (Periods x (d "0.2")) (d "0.01") 10 refused)
    ++ (for_each no_positive (λ x. row (Periods (d "4.0") (d "0.2")) x 10 refused)
    ++ (for_each no_positive (λ x. row (Speeds x (d "42.9")) (d "0.01") 14 refused)
    ++ (for_each no_positive (λ x. row (Speeds (d "30.0") x) (d "0.01") 14 refused)
    ++ for_each no_positive (λ x. row (Speeds (d "30.0") (d "42.9")) x 14 refused))))

unfoldable pub sheets : List Row
sheets =
    -- those of the first trials: 20 and 440, 77 and 3487
    row (Periods (d "4.0") (d "0.2")) (d "0.01") 10 (taken_with 20 440) ∷
    row (Speeds (d "30.0") (d "42.9")) (d "0.01") 14 (taken_with 77 3487) ∷
    -- N is 1 to 14
    row (Periods (d "4.0") (d "0.2")) (d "0.01") 0 refused ∷
    row (Periods (d "4.0") (d "0.2")) (d "0.01") 1 (taken_with 20 440) ∷
    row (Periods (d "4.0") (d "0.2")) (d "0.01") 14 (taken_with 20 440) ∷
    row (Periods (d "4.0") (d "0.2")) (d "0.01") 15 refused ∷
    row (Periods (d "4.0") (d "0.2")) (d "0.01") 255 refused ∷
    row (Speeds (d "30.0") (d "42.9")) (d "0.01") 0 refused ∷
    row (Speeds (d "30.0") (d "42.9")) (d "0.01") 1 (taken_with 0 3333) ∷
    row (Speeds (d "30.0") (d "42.9")) (d "0.01") 15 refused ∷
    -- a difference may be zero, of either sign, and nothing below it: the count of the last would be 0
    row (Periods (d "4.0") (d "0")) (d "0.01") 10 (taken_with 0 400) ∷
    row (Periods (d "4.0") (neg (d "0"))) (d "0.01") 10 (taken_with 0 400) ∷
    row (Periods (d "4.0") (neg (d "0.2"))) (d "0.01") 10 refused ∷
    row (Periods (d "4.0") (neg (d "0.001"))) (d "0.01") 10 refused ∷
    row (Periods (d "4.0") nan) (d "0.01") 10 refused ∷
    row (Periods (d "4.0") (inf false)) (d "0.01") 10 refused ∷
    row (Periods (d "4.0") (inf true)) (d "0.01") 10 refused ∷
    -- the top speed is not below the slowest
    row (Speeds (d "42.9") (d "30.0")) (d "0.01") 14 refused ∷
    row (Speeds (d "30.0") (d "30.0")) (d "0.01") 14 (taken_with 0 3333) ∷
    row (Speeds (bits 0x403e000000000001) (d "30.0")) (d "0.01") 14 refused ∷
    -- a period count is 1 to $7FFF
    row (Periods (d "0.5") (d "0")) (d "1") 1 (taken_with 0 1) ∷
    row (Periods (bits 0x3fdfffffffffffff) (d "0")) (d "1") 1 refused ∷
    row (Periods (d "0.004") (d "0")) (d "0.01") 1 refused ∷
    row (Periods (bits 0x40dfffdfffffffff) (d "0")) (d "1") 1 (taken_with 0 32767) ∷
    row (Periods (d "32767.5") (d "0")) (d "1") 1 refused ∷
    row (Periods (d "327.68") (d "0")) (d "0.01") 1 refused ∷
    -- for speeds at the slow end, with the fast one in range
    row (Speeds (d "3.0517578125") (d "100")) (d "0.01") 14 refused ∷
    row (Speeds (d "3.0517578125") (d "100")) (d "0.01") 1 refused ∷
    row (Speeds (d "3.052") (d "100")) (d "0.01") 14 (taken_with 2443 37651) ∷
    row (Speeds (d "3.052") (d "100")) (d "0.01") 1 (taken_with 0 32765) ∷
    -- at the fast end, with the slow one in range
    row (Speeds (d "10000") (d "250000")) (d "0.01") 4 refused ∷
    row (Speeds (d "10000") (d "250000")) (d "0.01") 1 refused ∷
    row (Speeds (d "10000") (d "200000")) (d "0.01") 4 (taken_with 3 16) ∷
    row (Speeds (d "10000") (d "200000")) (d "0.01") 1 (taken_with 0 10) ∷
    -- and at both
    row (Speeds (d "1") (d "2")) (d "0.01") 14 refused ∷
    row (Speeds (d "1") (d "2")) (d "0.01") 1 refused ∷
    row (Speeds (d "250000") (d "300000")) (d "0.01") 14 refused ∷
    row (Speeds (d "250000") (d "300000")) (d "0.01") 1 refused ∷
    -- an infinite quotient: 1e300 over 1e-300; 1000 over the smallest number; the difference of the former
    row (Periods (bits 0x7e37e43c8800759c) (d "0")) (bits 0x01a56e1fc2f8f359) 1 refused ∷
    row (Speeds (bits 0x0000000000000001) (d "30")) (d "0.01") 1 refused ∷
    row (Speeds (bits 0x0000000000000001) (bits 0x0000000000000001)) (d "0.01") 14 refused ∷
    row (Periods (d "4.0") (bits 0x7e37e43c8800759c)) (bits 0x01a56e1fc2f8f359) 1 refused ∷
    -- a difference count is at most $7FFF: with it STEP_CNTL1 is too large as well
    row (Periods (d "327.67") (d "327.68")) (d "0.01") 1 refused ∷
    row (Periods (d "0.01") (d "327.67")) (d "0.01") 1 (taken_with 32767 65535) ∷
    -- STEP_CNTL1 is at most $FFFF
    row (Periods (d "32767") (d "16384")) (d "1") 1 (taken_with 16384 65535) ∷
    row (Periods (d "32767") (d "16385")) (d "1") 1 refused ∷
    row (Periods (d "2") (d "32767")) (d "1") 1 refused ∷
    row (Periods (d "1") (d "32767")) (d "1") 1 (taken_with 32767 65535) ∷
    -- question 8: P(N) is at least 1
    row (Periods (d "41") (d "20")) (d "1") 3 (taken_with 20 81) ∷
    row (Periods (d "40") (d "20")) (d "1") 3 refused ∷
    row (Periods (d "41") (d "20")) (d "1") 4 refused ∷
    -- rounding STEP_CNTL0 up can push P(N) below 1
    row (Speeds (d "125") (d "1000")) (d "1") 14 refused ∷
    row (Speeds (d "125") (d "1000")) (d "1") 8 (taken_with 1 10) ∷
    row (Speeds (d "125") (d "1000")) (d "1") 9 refused ∷
    -- halves go up, in a count and in STEP_CNTL0
    row (Periods (d "2.5") (d "0.5")) (d "1") 2 (taken_with 1 5) ∷
    row (Periods (bits 0x4003ffffffffffff) (bits 0x3fdfffffffffffff)) (d "1") 2 (taken_with 0 2) ∷
    row (Periods (d "3.5") (d "1.5")) (d "1") 2 (taken_with 2 8) ∷
    row (Speeds (d "250") (bits 0x4074d55555555555)) (d "1") 3 (taken_with 1 6) ∷
    row (Speeds (d "100") (d "125")) (d "1") 5 (taken_with 1 12) ∷
    row (Speeds (d "100") (d "125")) (d "1") 4 (taken_with 1 12) ∷
    row (Speeds (d "100") (d "125")) (d "1") 6 (taken_with 0 10) ∷
    -- 1000 is divided by the speed first: over the product of both it would be 1562, over the tick first 312
    row (Speeds (d "6.4") (d "6.4")) (d "0.1") 1 (taken_with 0 1563) ∷
    row (Speeds (d "625") (d "625")) (d "0.00512") 1 (taken_with 0 313) ∷
    []

abbrev pub SheetsRight : Type 0
SheetsRight = all_right (not_positive ++ sheets) ≡ true
