-- Numbers read from digits, one after the other.
use Rattle.std.proofs.Common.{◌≡◌, ℕ, suc, ◌+◌, ◌*◌, ◌^◌, ◌≤◌, ◌<◌, Some, None, List, length, get_or, drop, arith, add-one, drop-cons, pow-suc}
use native.Mathlib.Nat.{mul-le-mul_right, suc-mul, pow-le-pow_right}
use lib.Seq.{drop-length}
use Rattle.parse.specs.Parsing.{digit, number_after}

module _ (base n i : ℕ) (digits : List ℕ) where
  module _ (inside : i < length digits) where
    pub one_more : (d : ℕ) → Some d ≡ digit base (get_or digits i 0) → number_after base (n * base + d) (drop (i + 1) digits) ≡ number_after base n (drop i digits)
    unfolding number_after
    one_more d e = rw (add-one, drop-cons digits i 0 inside, ← e)

    pub no_digit : None ≡ digit base (get_or digits i 0) → None ≡ number_after base n (drop i digits)
    unfolding number_after
    no_digit e = rw (drop-cons digits i 0 inside, ← e)

  pub all_read : i ≡ length digits → Some n ≡ number_after base n (drop i digits)
  unfolding number_after
  all_read e = rw (e, drop-length)

-- a number of i digits is below the base to the power i, and one digit more keeps it so
pub next-below : (base n i d : ℕ) → n < base ^ i → d < base → n * base + d < base ^ (i + 1)
next-below base n i d small below =
    let m : suc n * base ≤ base ^ i * base = mul-le-mul_right base small in
    rw add-one (omega (arith, suc-mul n base, pow-suc base i))

pub next_fits : (base n i d size : ℕ) → n < base ^ i → d < base → i < size → base ^ size ≤ 65536 → n * base + d < 65536
next_fits base n i d size small below inside fits =
    let b = next-below base n i d small below in
    let m : base ^ (i + 1) ≤ base ^ size = pow-le-pow_right (omega arith) (omega arith) in
    omega arith
