-- The count of a value goes by the value alone, however that is written as a fraction, and grows with it.
use mathlib.Core.Path.{◌≡◌, refl, sym, ap, ◌∙◌}
use mathlib.Core.Bool.{Bool, true, false}
use Prim.Native.Nat.{ℕ, ◌+◌, ◌*◌, ◌/◌, ◌≤◌, ◌<◌}
use native.Mathlib.Nat.{add-mul, mul-mul-mul_comm, mul_left_comm, mul_assoc, mul_comm, le_of_mul-le-mul_right, mul-le-mul_right, div-eq_of_lt, le-div_iff_mul-le, div-lt_iff_lt-mul}
use native.Mathlib.Omega.{arith}
use borrow.Author.Tests.{le-leb, lt-leb}
use lib.Dec.{T, leb, leb→le, le→leb}
use lib.Ieee.{Float, nan, inf, fin, up, down}
use lib.Ieee.Fits.{down_pos}
use lib.Ieee.Exact.{HasValue}
use lib.Ieee.Nearest.{div_same, div_mono}
use Rattle.words.specs.Choice.{pick}
use Rattle.nearest.specs.Counting.{half_up, in_count, counted, count_of}
use Rattle.std.specs.Prelude.{Some, None}

-- ---- half_up

-- 5/2 goes up to 3, 9/4 down to 2
examples : (half_up 5 2 ≡ 3) × (half_up 9 4 ≡ 2)
unfolding half_up
examples = (refl, refl)

-- twice a fraction and 1 over twice its divisor, crosswise with another's divisor
crosswise : (a b d : ℕ) → (2 * a + b) * (2 * d) ≡ 4 * (a * d) + 2 * (b * d)
crosswise a b d = add-mul (2 * a) b (2 * d) ∙ rw (mul-mul-mul_comm 2 a 2 d, mul_left_comm b 2 d)

pub half-mono : (a b c d : ℕ) → 0 < b → 0 < d → a * d ≤ c * b → half_up a b ≤ half_up c d
unfolding half_up
half-mono a b c d B D h =
    div_mono (2 * a + b) (2 * b) (2 * c + d) (2 * d) (omega arith) (omega arith) (omega (arith, crosswise a b d, crosswise c d b, mul_comm b d))

half-same : (a b c d : ℕ) → 0 < b → 0 < d → a * d ≡ c * b → half_up a b ≡ half_up c d
unfolding half_up
half-same a b c d B D h =
    div_same (2 * a + b) (2 * b) (2 * c + d) (2 * d) (omega arith) (omega arith) (omega (arith, crosswise a b d, crosswise c d b, mul_comm b d))

-- with k the nearest to a / c: from k - 1/2 on, and below k + 1/2
pub half-from : (a c : ℕ) → 0 < c → 2 * half_up a c * c ≤ 2 * a + c
unfolding half_up
half-from a c h =
    let k = (2 * a + c) / (2 * c) in
    let l : k * (2 * c) ≤ 2 * a + c = (le-div_iff_mul-le {k = 2 * c} {x = k} (omega arith)).0 (omega arith) in
    rw (mul_assoc 2 k c, ← mul_left_comm k 2 c) l

pub half-to : (a c : ℕ) → 0 < c → 2 * a + c < 2 * (half_up a c + 1) * c
unfolding half_up
half-to a c h =
    let k = (2 * a + c) / (2 * c) in
    let l : 2 * a + c < (k + 1) * (2 * c) = (div-lt_iff_lt-mul {k = 2 * c} {x = 2 * a + c} (omega arith)).0 (omega arith) in
    rw (mul_assoc 2 (k + 1) c, ← mul_left_comm (k + 1) 2 c) l

-- from $7FFF + 1/2 on it is $8000 at least
pub half-large : (a c : ℕ) → 0 < c → 65535 * c ≤ 2 * a → 32768 ≤ half_up a c
unfolding half_up
half-large a c p h = (le-div_iff_mul-le {k = 2 * c} {x = 32768} (omega arith)).1 (omega arith)

-- ---- two fractions of one value

-- two tests agree if each follows from the other
pub same_test : (p q : Bool) → (T p → T q) → (T q → T p) → p ≡ q
same_test true true i j = refl
same_test true false i j = absurd (i tt)
same_test false true i j = absurd (j tt)
same_test false false i j = refl

pub same-le : (x y z w : ℕ) → (x ≤ y → z ≤ w) → (z ≤ w → x ≤ y) → leb x y ≡ leb z w
same-le x y z w f g =
    same_test (leb x y) (leb z w) (λ t. le→leb z w (f (leb→le x y t))) (λ t. le→leb x y (g (leb→le z w t)))

-- at most one half
half_le : (a b c d : ℕ) → 0 < b → a * d ≡ c * b → 2 * a ≤ b → 2 * c ≤ d
half_le a b c d B h k =
    let l : 2 * a * d ≤ b * d = mul-le-mul_right d k in
    let m : 2 * c * b ≤ d * b = omega (arith, mul_assoc 2 a d, mul_assoc 2 c b, mul_comm b d) in
    le_of_mul-le-mul_right m B

pub counted_same : (s : Bool) (a b c d : ℕ) → 0 < b → 0 < d → a * d ≡ c * b → counted s a b ≡ counted s c d
counted_same false a b c d B D h = ap in_count (half-same a b c d B D h)
counted_same true a b c d B D h =
    ap (λ (t : Bool). pick t (Some 0) None) (same-le (2 * a) b (2 * c) d (half_le a b c d B h) (half_le c d a b D (sym h)))

pub count-value : (x : Float) (s : Bool) (a c : ℕ) → 0 < c → HasValue x s a c → count_of x ≡ counted s a c
unfolding count_of
count-value nan s a c p v = absurd v
count-value (inf t) s a c p v = absurd v
count-value (fin t m e) s a c p v = rw v.0 (counted_same s (m * up e) (down e) a c (down_pos e) p v.1)

-- ---- small and large values

pub counted-small : (s : Bool) (a c : ℕ) → 2 * a < c → counted s a c ≡ Some 0
unfolding half_up
counted-small false a c h = let l : 2 * a + c < 2 * c = omega arith in rw (div-eq_of_lt l)
counted-small true a c h = let l : 2 * a ≤ c = omega arith in rw (le-leb (2 * a) c l)

pub counted-large : (s : Bool) (a c : ℕ) → 0 < c → 32768 * c ≤ a → counted s a c ≡ None
counted-large false a c p h =
    let g = half-large a c p (omega arith) in
    rw (lt-leb (half_up a c) 0x7fff (omega arith))
counted-large true a c p h = let l : c < 2 * a = omega arith in rw (lt-leb (2 * a) c l)
