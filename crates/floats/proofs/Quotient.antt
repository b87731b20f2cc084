-- A quotient of floats that are not below zero is the quotient of their fractions, rounded; rounding keeps the order.
use mathlib.Core.Path.{◌≡◌, refl, sym, ◌∙◌}
use mathlib.Core.Bool.{Bool, true, false, ◌||◌, ◌&&◌, cond, true≢false}
use Prim.Native.Nat.{ℕ, zero, suc, ◌+◌, ◌*◌, ◌^◌, ◌≤◌, ◌<◌}
use native.Mathlib.Nat.{mul-one, mul_assoc, mul_comm, mul_left_comm, mul-pos, le_of_lt, le_of_eq}
use native.Mathlib.Omega.{arith}
use borrow.Author.Tests.{ltb-false}
use lib.IntN.{pos}
use lib.Dec.{T, ltb, eqb, ltb→lt, eqb→eq, eqb-suc-zero}
use lib.Ieee.{Float, nan, inf, fin, Format, binary64, prec, emax, low, up, down, odd, units, round, div, lt, le, of_int}
use lib.Ieee.Fits.{up_pos, round_is}
use lib.Ieee.Exact.{HasValue}
use lib.Ieee.Back.{round_whole}
use lib.Ieee.Scale.{round_same}
use lib.Ieee.Order.{round_mono}
use lib.Ieee.Positive.{num, den, den_pos, positive, positive_of_value, value→cross}
use Rattle.floats.specs.Plain.{is_plain}

-- ---- what is rounded without a sign is not below zero

odd-plain : (d q k l : ℕ) → T (is_plain (odd d false q k l))
unfolding odd
odd-plain d zero k l = tt
odd-plain d (suc q) k l = tt

units-plain : (f : Format) (q k : ℕ) → T (is_plain (units f false q k))
unfolding units
units-plain f q k = go (ltb (q * 2 ^ k) (2 ^ (low f + suc (emax f))))
  where
    go : (b : Bool) → T (is_plain (cond b (odd (suc (prec f)) false q k (low f)) (inf false)))
    go true = odd-plain (suc (prec f)) q k (low f)
    go false = tt

round-plain : (a c : ℕ) → T (is_plain (round binary64 false a c))
round-plain a c = rw (round_is binary64 false a c) (units-plain binary64 _ _)

-- ---- the quotient of a finite number by one above zero

abbrev pub Finite : Float → Type 0
Finite x = T (is_plain x) × (x ≡ inf false → ⊥)

quotient : (x y : Float) → Finite x → T (positive y) → div binary64 x y ≡ round binary64 false (num x * den y) (num y * den x)
unfolding div
quotient nan y f p = absurd f.0
quotient (inf true) y f p = absurd f.0
quotient (inf false) y f p = absurd (f.1 refl)
quotient (fin true m e) y f p = absurd f.0
quotient (fin false m e) nan f p = absurd p
quotient (fin false m e) (inf t) f p = absurd p
quotient (fin false m e) (fin true k d) f p = absurd p
quotient (fin false m e) (fin false zero d) f p = absurd p
quotient (fin false m e) (fin false (suc k) d) f p = rw (eqb-suc-zero k)

pub quotient-plain : (x y : Float) → Finite x → T (positive y) → T (is_plain (div binary64 x y))
quotient-plain x y f p = rw (quotient x y f p) (round-plain (num x * den y) (num y * den x))

num_pos : (x : Float) → T (positive x) → 0 < num x
num_pos nan p = absurd p
num_pos (inf s) p = absurd p
num_pos (fin true m e) p = absurd p
num_pos (fin false m e) p = mul-pos (ltb→lt 0 m p) (up_pos e)

divisor-pos : (x y : Float) → T (positive y) → 0 < num y * den x
divisor-pos x y p = mul-pos (num_pos y p) (den_pos x)

-- ---- in order

-- two quotients, by the order of their fractions
pub quotients : (x y v w : Float) → Finite x → Finite v → T (positive y) → T (positive w) → num x * den y * (num w * den v) ≤ num v * den w * (num y * den x) → T (le (div binary64 x y) (div binary64 v w))
quotients x y v w f g p q h =
    rw (quotient x y f p, quotient v w g q)
    (round_mono binary64 (num x * den y) (num y * den x) (num v * den w) (num w * den v) (divisor-pos x y p) (divisor-pos v w q) h)

-- less, or equal and of one sign: what `le` asks of two numbers without a sign
pub or-le : (a b : ℕ) → T (ltb a b || (eqb a b && true)) → a ≤ b
or-le a b = go (ltb a b) (eqb a b) (λ h. le_of_lt (ltb→lt a b h)) (λ h. le_of_eq (eqb→eq a b h))
  where
    go : (x y : Bool) → (T x → a ≤ b) → (T y → a ≤ b) → T (x || (y && true)) → a ≤ b
    go true y i j t = i tt
    go false true i j t = j tt
    go false false i j t = elim t [ ]

pub finite-le : (x y : Float) → Finite x → Finite y → T (le x y) → num x * den y ≤ num y * den x
unfolding le
finite-le nan y f g l = absurd f.0
finite-le (inf true) y f g l = absurd f.0
finite-le (inf false) y f g l = absurd (f.1 refl)
finite-le (fin true a e) y f g l = absurd f.0
finite-le (fin false a e) nan f g l = absurd g.0
finite-le (fin false a e) (inf true) f g l = absurd g.0
finite-le (fin false a e) (inf false) f g l = absurd (g.1 refl)
finite-le (fin false a e) (fin true b d) f g l = absurd g.0
finite-le (fin false a e) (fin false b d) f g l = or-le (a * up e * down d) (b * up d * down e) l

-- the second not below the first, both above zero
pub not-below : (x y : Float) → T (positive x) → T (positive y) → lt y x ≡ false → num x * den y ≤ num y * den x
unfolding lt
not-below nan y p q l = absurd p
not-below (inf s) y p q l = absurd p
not-below (fin true a e) y p q l = absurd p
not-below (fin false a e) nan p q l = absurd q
not-below (fin false a e) (inf t) p q l = absurd q
not-below (fin false a e) (fin true b d) p q l = absurd q
not-below (fin false a e) (fin false b d) p q l = ltb-false (b * up d * down e) (a * up e * down d) l

-- ---- of whole numbers that an f64 holds exactly, up to 2 ^ 53

finite-value : (x : Float) (a c : ℕ) → HasValue x false a c → Finite x
finite-value nan a c v = absurd v
finite-value (inf s) a c v = absurd v
finite-value (fin true m e) a c v = absurd (true≢false v.0)
finite-value (fin false m e) a c v = (tt, λ (q : fin false m e ≡ inf false). let z : ◌≡◌ {A = ℕ} 0 1 = cc in omega arith)

crosswise : (a b w d p q : ℕ) → a * 1 ≡ w * p → b * 1 ≡ d * q → a * q * d ≡ w * (b * p)
crosswise a b w d p q e f = rw (sym (mul-one a) ∙ e, sym (mul-one b) ∙ f) (simp (mul_assoc, mul_comm, mul_left_comm))

pub whole-quotient : (w d : ℕ) → w ≤ 2 ^ 53 → 0 < d → d ≤ 2 ^ 53 → div binary64 (of_int binary64 (pos w)) (of_int binary64 (pos d)) ≡ round binary64 false w d
unfolding of_int
whole-quotient w d h D k =
    let x = round binary64 false w 1 in
    let y = round binary64 false d 1 in
    let v = round_whole binary64 false w h in
    let u = round_whole binary64 false d k in
    let p = positive_of_value y d 1 u D in
    quotient x y (finite-value x w 1 v) p
    ∙ round_same binary64 false (num x * den y) (num y * den x) w d (divisor-pos x y p) D (crosswise (num x) (num y) w d (den x) (den y) (value→cross x w 1 v) (value→cross y d 1 u))
