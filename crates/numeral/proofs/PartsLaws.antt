-- Texts of digits, with a point or none, are the numbers that they are claimed to be.
use Prim.Native.Nat.{ℕ, zero, suc, ◌+◌, ◌*◌, ◌^◌, ◌≤◌}
use mathlib.Core.Bool.{true}
use mathlib.Core.List.{List, [], ◌∷◌, ◌++◌}
use mathlib.Core.Path.{◌≡◌, refl, sym, ◌∙◌}
use native.Mathlib.Nat.{zero-mul, zero-add, add-zero, mul-one, mul_assoc, add_assoc, add-mul, pow-succ'}
use native.Mathlib.Omega.{arith}
use lib.ListN.{length, drop, length-append}
use lib.Seq.{drop-cons, drop-length}
use lib.Pow.{pow-add}
use borrow.Author.Tests.{le-leb, lt-ltb, ne_eqb}
use Rattle.std.specs.Prelude.{Option, Some, option_and_then}
use Rattle.words.proofs.ChoiceLaws.{and_left, and_right}
use Rattle.numeral.specs.Decimal.{is_digit, with_digit, takes, after_digits, after_point, with_byte, numeral_of, value_of, decimal_of}
use Rattle.numeral.specs.Claims.{all_digits, number, DecimalWhole, DecimalParts}
use Rattle.numeral.specs.declared.Numeral.{Numeral}
use Rattle.numeral.specs.declared.Numeral.TheVariants.{Digits, Parts}
use Rattle.numeral.proofs.NumeralLaws.{digit-range}

-- ---- a text is read from its first byte on
read_on : Option Numeral → List ℕ → Option Numeral
read_on m [] = m
read_on m (b ∷ bytes) = read_on (option_and_then (λ n. with_byte n b) m) bytes

from_place : (text : List ℕ) (k n : ℕ) → n + k ≡ length text → numeral_of (length text) text ≡ read_on (numeral_of n text) (drop n text)
unfolding numeral_of read_on
from_place text zero n e = let f : n ≡ length text = omega arith in rw (f, drop-length text)
from_place text (suc k) n e = rw (drop-cons text n 0 (omega arith)) (from_place text k (suc n) (omega arith))

from_first : (text : List ℕ) → numeral_of (length text) text ≡ read_on (Some (Digits 0 0)) text
unfolding numeral_of
from_first text = from_place text (length text) 0 (zero-add (length text))

read-append : (m : Option Numeral) (xs ys : List ℕ) → read_on m (xs ++ ys) ≡ read_on (read_on m xs) ys
unfolding read_on
read-append m [] ys = refl
read-append m (b ∷ xs) ys = read-append (option_and_then (λ n. with_byte n b) m) xs ys

-- ---- a digit is taken where there is room, and so is the point behind a digit
taken : (n b : ℕ) → is_digit b ≡ true → n + 1 ≤ 15 → takes n b ≡ true
unfolding takes
taken n b d h = rw (d, lt-ltb n 15 (omega arith))

digit-taken : (w n b : ℕ) → is_digit b ≡ true → n + 1 ≤ 15 → with_byte (Digits w n) b ≡ Some (Digits (with_digit w b) (n + 1))
unfolding with_byte after_digits
digit-taken w n b d h = let r = digit-range b d in rw (ne_eqb b 46 (λ e. omega arith), taken n b d h)

place-taken : (w n k b : ℕ) → is_digit b ≡ true → n + 1 ≤ 15 → with_byte (Parts w n k) b ≡ Some (Parts (with_digit w b) (n + 1) (k + 1))
unfolding with_byte after_point
place-taken w n k b d h = rw (taken n b d h)

point-taken : (w n : ℕ) → 1 ≤ n → with_byte (Digits w n) 46 ≡ Some (Parts w n 0)
unfolding with_byte after_digits
point-taken w n h = rw (le-leb 1 n h)

-- ---- so each digit counts ten to the power of how many follow it
next-number : (w b : ℕ) (bytes : List ℕ) → with_digit w b * 10 ^ length bytes + number bytes ≡ w * 10 ^ length (b ∷ bytes) + number (b ∷ bytes)
unfolding with_digit number
next-number w b bytes = rw (pow-succ' 10 (length bytes), add-mul, mul_assoc, add_assoc)

one_further : (n b : ℕ) (bytes : List ℕ) → n + 1 + length bytes ≡ n + length (b ∷ bytes)
one_further n b bytes = omega arith

digits-read : (ds : List ℕ) (w n : ℕ) → all_digits ds ≡ true → n + length ds ≤ 15
    → read_on (Some (Digits w n)) ds ≡ Some (Digits (w * 10 ^ length ds + number ds) (n + length ds))
unfolding read_on all_digits number
digits-read [] w n e h = rw (mul-one w, add-zero w, add-zero n)
digits-read (b ∷ ds) w n e h =
    rw (
      digit-taken w n b (and_left (is_digit b) (all_digits ds) e) (omega arith),
      digits-read ds (with_digit w b) (n + 1) (and_right (is_digit b) (all_digits ds) e) (omega arith),
      next-number w b ds,
      one_further n b ds,
    )

places-read : (fs : List ℕ) (w n k : ℕ) → all_digits fs ≡ true → n + length fs ≤ 15
    → read_on (Some (Parts w n k)) fs ≡ Some (Parts (w * 10 ^ length fs + number fs) (n + length fs) (k + length fs))
unfolding read_on all_digits number
places-read [] w n k e h = rw (mul-one w, add-zero w, add-zero n, add-zero k)
places-read (b ∷ fs) w n k e h =
    rw (
      place-taken w n k b (and_left (is_digit b) (all_digits fs) e) (omega arith),
      places-read fs (with_digit w b) (n + 1) (k + 1) (and_right (is_digit b) (all_digits fs) e) (omega arith),
      next-number w b fs,
      one_further n b fs,
      one_further k b fs,
    )

number_append : (ds fs : List ℕ) → number (ds ++ fs) ≡ number ds * 10 ^ length fs + number fs
unfolding number
number_append [] fs = sym (rw (zero-mul (10 ^ length fs)) (zero-add (number fs)))
number_append (b ∷ ds) fs = rw (number, length-append ds fs, pow-add, number_append ds fs, add-mul, mul_assoc, add_assoc)

-- the digits before a point, read from the first on
first-digits : (ds : List ℕ) → all_digits ds ≡ true → length ds ≤ 15 → read_on (Some (Digits 0 0)) ds ≡ Some (Digits (number ds) (length ds))
first-digits ds e h = digits-read ds 0 0 e (omega arith) ∙ rw (zero-mul (10 ^ length ds), zero-add (number ds), zero-add (length ds))

pub decimal-whole : DecimalWhole
unfolding decimal_of value_of
decimal-whole ds e l h = rw (from_first ds, first-digits ds e h, le-leb 1 (length ds) l)

pub decimal-parts : DecimalParts
unfolding decimal_of value_of read_on
decimal-parts ds fs e f l m h =
    rw (
      from_first (ds ++ 46 ∷ fs),
      read-append (Some (Digits 0 0)) ds (46 ∷ fs),
      first-digits ds e (omega arith),
      point-taken (number ds) (length ds) l,
      places-read fs (number ds) (length ds) 0 f h,
      zero-add (length fs),
      le-leb 1 (length fs) m,
      number_append ds fs,
    )
