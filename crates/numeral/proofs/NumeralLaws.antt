-- What has been read stays small, so its digits and its power of ten are exact as f64, and their quotient is rounded once.
use Prim.Native.Nat.{ℕ, zero, suc, ◌+◌, ◌^◌, ◌≤◌, ◌<◌}
use mathlib.Core.Path.{◌≡◌, subst}
use mathlib.Core.Bool.{true, false}
use mathlib.Core.List.{List}
use native.Mathlib.Nat.{pow-suc, one-le-pow, pow-le-pow_right}
use native.Mathlib.Numerals.{add-one}
use native.Mathlib.Omega.{arith}
use lib.IntN.{pos}
use lib.ListN.{get_or}
use lib.Dec.{leb, ltb, eqb}
use lib.Ieee.{binary64, round, div, of_int}
use borrow.Author.Tests.{leb-true, ltb-true}
use Rattle.std.specs.Prelude.{Option, Some, None, IfSome, option_and_then}
use Rattle.words.proofs.ChoiceLaws.{pick-cases, and_left, and_right}
use Rattle.floats.proofs.Quotient.{whole-quotient}
use Rattle.numeral.specs.Decimal.{is_digit, with_digit, takes, after_digits, after_point, with_byte, numeral_of, Small}
use Rattle.numeral.specs.declared.Numeral.{Numeral}
use Rattle.numeral.specs.declared.Numeral.TheVariants.{Digits, Parts}

-- ---- one more digit
pub digit-range : (b : ℕ) → is_digit b ≡ true → (48 ≤ b) × (b ≤ 57)
unfolding is_digit
digit-range b e = (leb-true 48 b (and_left (leb 48 b) (leb b 57) e), leb-true b 57 (and_right (leb 48 b) (leb b 57) e))

module _ (n b : ℕ) (t : takes n b ≡ true) where
  pub takes-digit : is_digit b ≡ true
  unfolding takes
  takes-digit = and_left (is_digit b) (ltb n 15) t

  pub takes-room : n < 15
  unfolding takes
  takes-room = ltb-true n 15 (and_right (is_digit b) (ltb n 15) t)

  -- the number with it is below the next power of ten
  next-below : (w : ℕ) → w < 10 ^ n → with_digit w b < 10 ^ (n + 1)
  unfolding with_digit
  next-below w h = let d = digit-range b takes-digit in rw add-one (omega (arith, pow-suc 10 n))

-- fewer than fifteen digits leave room for one more
pub room_below : (n w : ℕ) → n < 15 → w < 10 ^ n → w < 10 ^ 14
room_below n w r h = let m : 10 ^ n ≤ 10 ^ 14 = pow-le-pow_right (omega arith) {j = 14} (omega arith) in omega arith

-- ---- what has been read is small
small-after-digits : (w n b : ℕ) → Small (Digits w n) → IfSome (after_digits w n b) Small
unfolding after_digits
small-after-digits w n b s =
    pick-cases (λ o. IfSome o Small) (eqb b 46)
    (λ e. pick-cases (λ o. IfSome o Small) (leb 1 n) (λ f. (s.0, s.1, omega arith)) (λ f. tt))
    (λ e. pick-cases (λ o. IfSome o Small) (takes n b) (λ t. let r = takes-room n b t in (next-below n b t w s.0, omega arith)) (λ t. tt))

small-after-point : (w n k b : ℕ) → Small (Parts w n k) → IfSome (after_point w n k b) Small
unfolding after_point
small-after-point w n k b s =
    pick-cases (λ o. IfSome o Small) (takes n b)
    (λ t. let r = takes-room n b t in (next-below n b t w s.0, omega arith, omega arith))
    (λ t. tt)

small-with-byte : (m : Option Numeral) (b : ℕ) → IfSome m Small → IfSome (option_and_then (λ n. with_byte n b) m) Small
unfolding with_byte
small-with-byte (Some (Digits w n)) b s = small-after-digits w n b s
small-with-byte (Some (Parts w n k)) b s = small-after-point w n k b s
small-with-byte None b s = tt

pub small-numeral : (n : ℕ) (text : List ℕ) → IfSome (numeral_of n text) Small
unfolding numeral_of
small-numeral zero text = (omega arith, omega arith)
small-numeral (suc n) text = small-with-byte (numeral_of n text) (get_or text n 0) (small-numeral n text)

pub small_read : (n : ℕ) (text : List ℕ) (m : Numeral) → numeral_of n text ≡ Some m → Small m
small_read n text m e = subst (λ (o : Option Numeral). IfSome o Small) e (small-numeral n text)

-- what is no beginning of a number stays none
pub none-stays : (text : List ℕ) (k n end : ℕ) → n + k ≡ end → numeral_of n text ≡ None → numeral_of end text ≡ None
unfolding numeral_of
none-stays text zero n end e h = let f : n ≡ end = omega arith in rw (← f) h
none-stays text (suc k) n end e h = none-stays text k (suc n) end (omega arith) (rw h)

-- ---- the quotient of two whole numbers that are exact
-- up to 2 ^ 53 every whole number is, so every power of ten up to the fifteenth and what is below it
pub exact-power : (k : ℕ) → k ≤ 15 → 10 ^ k ≤ 2 ^ 53
exact-power k h = let m : 10 ^ k ≤ 10 ^ 15 = pow-le-pow_right (omega arith) {j = 15} h in omega arith

pub exact-whole : (w n : ℕ) → w < 10 ^ n → n ≤ 15 → w ≤ 2 ^ 53
exact-whole w n h m = let p = exact-power n m in omega arith

pub rounded-once : (w n k : ℕ) → Small (Parts w n k) → div binary64 (of_int binary64 (pos w)) (of_int binary64 (pos (10 ^ k))) ≡ round binary64 false w (10 ^ k)
rounded-once w n k s = whole-quotient w (10 ^ k) (exact-whole w n s.0 s.1) (one-le-pow k 10 (omega arith)) (exact-power k (omega arith))
