-- The count of a float, read off the fields of its bit pattern: the sign, the exponent's field and the digits below the leading one.
use mathlib.Core.Path.{◌≡◌, refl, sym, ap, subst, ◌∙◌}
use mathlib.Core.Logic.{⊎_elim}
use mathlib.Core.Bool.{Bool, true, false, cond}
use Prim.Native.Nat.{ℕ, suc, ◌+◌, ◌-◌, ◌*◌, ◌/◌, ◌%◌, ◌^◌, ◌≤◌, ◌<◌}
use native.Mathlib.Nat.{pow-suc, mul-div-mul_left, add-mul, mul_assoc, mul-pos, mul-one, mul-le-mul_right, eq-zero-or-pos, eq-or-lt_of_le, lt_of_lt_of_le}
use native.Mathlib.Omega.{arith}
use borrow.Author.Tests.{le-leb, lt-leb, ne_eqb}
use lib.Dec.{T, leb, eqb}
use lib.Pow.{pow_pos, pow_mono, pow-add, shl_lt, shl_exact}
use lib.Ieee.{Float, nan, inf, fin, binary64, fits, is_nan, odd, of_fields, of_bits, to_bits}
use lib.Ieee.Exact.{odd_sign}
use lib.Ieee.Bits.{of_bits-to_bits, to_bits-lt}
use lib.Bits.{bit_and, and_mask}
use Rattle.nearest.specs.Counting.{half_up, in_count, counted, count_of}
use Rattle.std.specs.Prelude.{Option, Some, None}
use Rattle.nearest.proofs.ValueLaws.{counted_same, count-value, counted-small, counted-large}

-- 2 ^ 52, the weight of the leading digit, and 2 ^ 63, that of the sign
abbrev lead : ℕ
lead = 0x10_0000_0000_0000

abbrev sign_bit : ℕ
sign_bit = 0x8000_0000_0000_0000

-- ---- half_up by shifts

by-shift : (m j : ℕ) → (m + 2 ^ j) / 2 ^ suc j ≡ half_up m (2 ^ suc j)
unfolding half_up
by-shift m j =
    let d : 2 * m + 2 ^ suc j ≡ 2 * (m + 2 ^ j) = omega (arith, pow-suc 2 j) in
    rw d (sym (mul-div-mul_left (m + 2 ^ j) (2 ^ suc j) (pow_pos 1)))

module _ (places : ℕ) (some : 0 < places) (few : places < 63) where
  -- the shifted 1 loses nothing
  one_shifted : (1 * 2 ^ (places - 1)) % 2 ^ 64 ≡ 2 ^ (places - 1)
  one_shifted =
      let d = shl_exact {a = 1} 1 (places - 1) 64 (omega arith) (omega arith) in
      omega arith

  pub half-up-code : (m : ℕ) → (m + (1 * 2 ^ (places - 1)) % 2 ^ 64) / 2 ^ places ≡ half_up m (2 ^ places)
  half-up-code m =
      let e : suc (places - 1) ≡ places = omega arith in
      rw one_shifted (subst (λ (n : ℕ). (m + 2 ^ (places - 1)) / 2 ^ n ≡ half_up m (2 ^ n)) e (by-shift m (places - 1)))

  pub half-bit-le : (1 * 2 ^ (places - 1)) % 2 ^ 64 ≤ 2 ^ 62
  half-bit-le = rw one_shifted (pow_mono {i = places - 1} {j = 62} (omega arith))

-- ---- orders of large numbers, over variables: `omega` stops at numbers of more than 38 digits

twice-lt : (a c : ℕ) → a < c → 2 * a < c * 2
twice-lt a c h = omega arith

lt-twice : (a c : ℕ) → 0 < c → c ≤ a → c < 2 * a
lt-twice a c p h = omega arith

more_lt : (h t u : ℕ) → 0 < t → 0 < u → h * u * 2 < 2 * ((h + t) * u)
more_lt h t u p q =
    let e = add-mul h t u in
    let g : 0 < t * u = mul-pos p q in
    omega arith

-- ---- the count by the fields: x the exponent's, t the digits'

-- the value of a leading digit with the digits t, at an exponent above the lowest
sized : ℕ → ℕ → ℕ
sized x t = (lead + t) * 2 ^ x

at_zero : (s : Bool) (t : ℕ) → count_of (of_fields binary64 s 0 t) ≡ counted s (t * 1) (2 ^ 1074)
unfolding of_fields
at_zero s t = count-value (odd 53 s t 0 1074) s (t * 1) (2 ^ 1074) (pow_pos 1074) (odd_sign 53 s t 0 1074)

at_suc : (s : Bool) (x t : ℕ) → suc x < 2047 → count_of (of_fields binary64 s (suc x) t) ≡ counted s (sized x t) (2 ^ 1074)
unfolding of_fields sized
at_suc s x t h =
    let n : suc x ≡ 2047 → ⊥ = λ (e : suc x ≡ 2047). omega arith in
    rw (ne_eqb (suc x) 2047 n) (count-value (odd 53 s (lead + t) x 1074) s (sized x t) (2 ^ 1074) (pow_pos 1074) (odd_sign 53 s (lead + t) x 1074))

at-normal : (s : Bool) (x t : ℕ) → 0 < x → x < 2047 → count_of (of_fields binary64 s x t) ≡ counted s (sized (x - 1) t) (2 ^ 1074)
at-normal s x t h k =
    let e : suc (x - 1) ≡ x = omega arith in
    subst (λ (n : ℕ). count_of (of_fields binary64 s n t) ≡ counted s (sized (x - 1) t) (2 ^ 1074)) e (at_suc s (x - 1) t (omega arith))

-- the highest field is that of an infinity or a NaN
at_ones : (s : Bool) (t : ℕ) → count_of (of_fields binary64 s 2047 t) ≡ None
unfolding of_fields count_of
at_ones s t = go (eqb t 0)
  where
    go : (b : Bool) → count_of (cond b (inf s) nan) ≡ None
    go true = refl
    go false = refl

sized-ge : (x t j : ℕ) → j ≤ x → lead * 2 ^ j ≤ sized x t
unfolding sized
sized-ge x t j h =
    let k : 2 ^ j ≤ 2 ^ x = pow_mono h in
    let a : lead * 2 ^ j ≤ lead * 2 ^ x = omega arith in
    let b : lead * 2 ^ x ≤ (lead + t) * 2 ^ x = mul-le-mul_right (2 ^ x) (omega arith) in
    omega arith

sized-lt : (x t j : ℕ) → t < lead → 53 + x ≤ j → sized x t < 2 ^ j
unfolding sized
sized-lt x t j k h = lt_of_lt_of_le (shl_lt {a = lead + t} 53 x (omega arith)) (pow_mono {i = 53 + x} {j = j} h)

-- less than one half
at_small : (s : Bool) (x t : ℕ) → t < lead → x < 1022 → count_of (of_fields binary64 s x t) ≡ Some 0
at_small s x t k h = ⊎_elim low normal (eq-zero-or-pos x)
  where
    low : x ≡ 0 → count_of (of_fields binary64 s x t) ≡ Some 0
    low e =
        rw (e, at_zero s t, mul-one t)
        (counted-small s t (2 ^ 1074) (twice-lt t (2 ^ 1073) (lt_of_lt_of_le k (pow_mono {i = 52} {j = 1073} (omega arith)))))

    normal : 0 < x → count_of (of_fields binary64 s x t) ≡ Some 0
    normal p =
        at-normal s x t p (omega arith) ∙ counted-small s (sized (x - 1) t) (2 ^ 1074) (twice-lt (sized (x - 1) t) (2 ^ 1073) (sized-lt (x - 1) t 1073 k (omega arith)))

-- 2 ^ 15 or more, or infinite
at-large : (s : Bool) (x t : ℕ) → 1037 < x → x < 2048 → count_of (of_fields binary64 s x t) ≡ None
at-large s x t h k = ⊎_elim top normal (eq-or-lt_of_le up_to)
  where
    up_to : x ≤ 2047
    up_to = omega arith

    top : x ≡ 2047 → count_of (of_fields binary64 s x t) ≡ None
    top e = rw e (at_ones s t)

    normal : x < 2047 → count_of (of_fields binary64 s x t) ≡ None
    normal p =
        at-normal s x t (omega arith) p ∙ counted-large s (sized (x - 1) t) (2 ^ 1074) (pow_pos 1074) (sized-ge (x - 1) t 1037 (omega arith))

-- -1/2, and what lies below it
at-minus-half : count_of (of_fields binary64 true 1022 0) ≡ Some 0
unfolding sized
at-minus-half = at-normal true 1022 0 (omega arith) (omega arith)

past-half : (x t : ℕ) → 0 < x → x < 2047 → 2 ^ 1074 < 2 * sized (x - 1) t → count_of (of_fields binary64 true x t) ≡ None
past-half x t p h l = at-normal true x t p h ∙ rw (lt-leb (2 * sized (x - 1) t) (2 ^ 1074) l)

at-minus-more : (x t : ℕ) → 1022 < x → x < 2047 → count_of (of_fields binary64 true x t) ≡ None
at-minus-more x t h k =
    past-half x t (omega arith) k (lt-twice (sized (x - 1) t) (2 ^ 1074) (pow_pos 1074) (sized-ge (x - 1) t 1022 (omega arith)))

at-under-half : (t : ℕ) → 0 < t → count_of (of_fields binary64 true 1022 t) ≡ None
unfolding sized
at-under-half t h = past-half 1022 t (omega arith) (omega arith) (more_lt lead t (2 ^ 1021) h (pow_pos 1021))

-- from 1/2 on, with the common power of two taken out
at-middle : (x t : ℕ) → 0 < x → x < 1075 → count_of (of_fields binary64 false x t) ≡ in_count (half_up (lead + t) (2 ^ (1075 - x)))
unfolding sized
at-middle x t h k =
    let e : x - 1 + (1075 - x) ≡ 1074 = omega arith in
    let v : sized (x - 1) t * 2 ^ (1075 - x) ≡ (lead + t) * 2 ^ 1074 =
    mul_assoc (lead + t) (2 ^ (x - 1)) (2 ^ (1075 - x)) ∙ ap (λ (n : ℕ). (lead + t) * n) (sym (pow-add 2 (x - 1) (1075 - x)) ∙ ap (λ (n : ℕ). 2 ^ n) e) in
    at-normal false x t h (omega arith) ∙ counted_same false (sized (x - 1) t) (2 ^ 1074) (lead + t) (2 ^ (1075 - x)) (pow_pos 1074) (pow_pos (1075 - x)) v

-- ---- as the code has it

pub nan-outside : (q : Float) → is_nan q ≡ true → None ≡ count_of q
unfolding count_of is_nan
nan-outside nan h = refl
nan-outside (inf s) h = cc
nan-outside (fin s m e) h = cc

-- a float with its bits, and the two fields as the code takes them out
abbrev pub bits : Float → ℕ
bits q = to_bits binary64 q

abbrev pub exponent : Float → ℕ
exponent q = bit_and (bits q / lead) 2047

abbrev pub digits : Float → ℕ
digits q = bit_and (bits q) 4503599627370495

exponent_lt : (q : Float) → exponent q < 2048
exponent_lt q = rw (and_mask (bits q / lead) 11) (omega arith)

pub digits_lt : (q : Float) → digits q < lead
digits_lt q = rw (and_mask (bits q) 52) (omega arith)

exponent-is : (b : ℕ) → b % sign_bit / lead ≡ b / lead % 2048
exponent-is b = omega arith

-- a float is what the fields of its own bits are read as
read-fields : (q : Float) → T (fits binary64 q) → q ≡ of_fields binary64 (leb sign_bit (bits q)) (bits q / lead % 2048) (bits q % lead)
unfolding of_bits
read-fields q h =
    sym (of_bits-to_bits binary64 q h) ∙ ap (λ (x : ℕ). of_fields binary64 (leb sign_bit (bits q)) x (bits q % lead)) (exponent-is (bits q))

sign-clear-below : (b : ℕ) → b < 2 ^ 64 → (b / sign_bit ≡ 1 → ⊥) → leb sign_bit b ≡ false
sign-clear-below b h n = lt-leb sign_bit b (omega arith)

module _ (q : Float) (h : T (fits binary64 q)) where
  -- what is shown of the fields is shown of the float
  by-fields : (s : Bool) (k : Option ℕ) → leb sign_bit (bits q) ≡ s → count_of (of_fields binary64 s (exponent q) (digits q)) ≡ k → k ≡ count_of q
  by-fields s k e g =
      sym (ap count_of (read-fields q h) ∙ rw (e, ← and_mask (bits q / lead) 11, ← and_mask (bits q) 52) g)

  sign_set : bits q / sign_bit ≡ 1 → leb sign_bit (bits q) ≡ true
  sign_set e = le-leb sign_bit (bits q) (omega arith)

  sign_clear : (bits q / sign_bit ≡ 1 → ⊥) → leb sign_bit (bits q) ≡ false
  sign_clear n = sign-clear-below (bits q) (to_bits-lt binary64 q h) n

  pub small : exponent q < 1022 → Some 0 ≡ count_of q
  small l = by-fields (leb sign_bit (bits q)) (Some 0) refl (at_small (leb sign_bit (bits q)) (exponent q) (digits q) (digits_lt q) l)

  pub large : 1037 < exponent q → None ≡ count_of q
  large l = by-fields (leb sign_bit (bits q)) None refl (at-large (leb sign_bit (bits q)) (exponent q) (digits q) l (exponent_lt q))

  pub minus-half : bits q / sign_bit ≡ 1 → exponent q ≡ 1022 → digits q ≡ 0 → Some 0 ≡ count_of q
  minus-half n x t = by-fields true (Some 0) (sign_set n) (rw (x, t) at-minus-half)

  pub under-half : bits q / sign_bit ≡ 1 → exponent q ≡ 1022 → (digits q ≡ 0 → ⊥) → None ≡ count_of q
  under-half n x t = by-fields true None (sign_set n) (rw x (at-under-half (digits q) (omega arith)))

  pub minus-more : bits q / sign_bit ≡ 1 → 1022 ≤ exponent q → exponent q ≤ 1037 → (exponent q ≡ 1022 → ⊥) → None ≡ count_of q
  minus-more n a b x = by-fields true None (sign_set n) (at-minus-more (exponent q) (digits q) (omega arith) (omega arith))

  pub middle : (bits q / sign_bit ≡ 1 → ⊥) → 1022 ≤ exponent q → exponent q ≤ 1037 → in_count (half_up (lead + digits q) (2 ^ (1075 - exponent q))) ≡ count_of q
  middle n a b = by-fields false (in_count (half_up (lead + digits q) (2 ^ (1075 - exponent q)))) (sign_clear n) (at-middle (exponent q) (digits q) (omega arith) (omega arith))
