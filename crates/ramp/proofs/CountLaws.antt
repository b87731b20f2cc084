-- What proofs about counts and the two words share.
use Prim.Native.Nat.{ℕ, ◌+◌, ◌-◌, ◌*◌, ◌/◌, ◌≤◌, ◌<◌}
use mathlib.Core.Path.{◌≡◌, sym}
use mathlib.Core.Logic.{◌↔◌, ⊎_elim}
use mathlib.Core.Bool.{true, ◌&&◌}
use native.Mathlib.Nat.{mul-le-mul_left, mul_left_comm, mul_assoc, add-mul, eq-or-lt_of_le, le-div_iff_mul-le, div-lt_iff_lt-mul}
use native.Mathlib.Omega.{arith}
use borrow.Author.Tests.{leb-true, le-leb, lt-leb}
use lib.Dec.{leb}
use Rattle.words.proofs.ChoiceLaws.{and_left, and_right}
use Rattle.motor.specs.Stepping.{period}
use Rattle.unit.specs.Gate.{ramp_good}
use Rattle.nearest.specs.Counting.{half_up}
use Rattle.nearest.proofs.ValueLaws.{half-from, half-to}
use Rattle.ramp.specs.Sheet.{slope}

-- a nearest whole number is no larger than what is divided
pub half-le-self : (k d : ℕ) → 0 < d → half_up k d ≤ k
unfolding half_up
half-le-self k d h =
    let a : k * 1 ≤ k * d = mul-le-mul_left k h in
    let l : 2 * k + d < (k + 1) * (2 * d) = omega (arith, mul_left_comm k 2 d, add-mul k 1 (2 * d)) in
    let g : (2 * k + d) / (2 * d) < k + 1 = (div-lt_iff_lt-mul {k = 2 * d} (omega arith)).1 l in
    omega arith

-- only one whole number is the nearest
half_is : (a c k : ℕ) → 0 < c → 2 * k * c ≤ 2 * a + c → 2 * a + c < 2 * (k + 1) * c → half_up a c ≡ k
unfolding half_up
half_is a c k h l g =
    let from : k * (2 * c) ≤ 2 * a + c = omega (arith, mul_assoc 2 k c, mul_left_comm k 2 c) in
    let to : 2 * a + c < (k + 1) * (2 * c) = omega (arith, mul_assoc 2 (k + 1) c, mul_left_comm (k + 1) 2 c) in
    let x : k ≤ (2 * a + c) / (2 * c) = (le-div_iff_mul-le {k = 2 * c} {x = k} (omega arith)).1 from in
    let y : (2 * a + c) / (2 * c) < k + 1 = (div-lt_iff_lt-mul {k = 2 * c} (omega arith)).1 to in
    omega arith

-- STEP_CNTL0 for speeds by what it is: 0 for one rate, else the nearest
abbrev pub Falls : ℕ → ℕ → ℕ → ℕ → Type 0
Falls p q n cntl0 = (n ≡ 1 → cntl0 ≡ 0) × (2 ≤ n → (2 * cntl0 * (n - 1) ≤ 2 * (p - q) + (n - 1)) × (2 * (p - q) + (n - 1) < 2 * (cntl0 + 1) * (n - 1)))

pub slope-falls : (p q n : ℕ) → Falls p q n (slope p q n)
unfolding slope
slope-falls p q n = (λ e. rw e, more)
  where
    more : 2 ≤ n → (2 * slope p q n * (n - 1) ≤ 2 * (p - q) + (n - 1)) × (2 * (p - q) + (n - 1) < 2 * (slope p q n + 1) * (n - 1))
    more h = rw (lt-leb n 1 (omega arith)) (half-from (p - q) (n - 1) (omega arith), half-to (p - q) (n - 1) (omega arith))

pub falls-slope : (p q n cntl0 : ℕ) → 1 ≤ n → Falls p q n cntl0 → slope p q n ≡ cntl0
unfolding slope
falls-slope p q n cntl0 h f = ⊎_elim one more (eq-or-lt_of_le h)
  where
    one : 1 ≡ n → slope p q n ≡ cntl0
    one e = rw (f.0 (sym e), le-leb n 1 (omega arith))

    more : 1 < n → slope p q n ≡ cntl0
    more l = rw (lt-leb n 1 l) (let g = f.1 l in half_is (p - q) (n - 1) cntl0 (omega arith) g.0 g.1)

-- question 8, without differences
pub question-8 : (cntl0 cntl1 n : ℕ) → ramp_good cntl0 cntl1 n ≡ true ↔ (cntl0 * (1 + n) < cntl1) × (cntl1 ≤ cntl0 * 2 + 0x7fff)
unfolding ramp_good period
question-8 cntl0 cntl1 n = (to, λ h. rw (le-leb 1 a (omega arith), le-leb b 0x7fff (omega arith)))
  where
    a : ℕ
    a = cntl1 - cntl0 * (1 + n)

    b : ℕ
    b = cntl1 - cntl0 * 2

    to : leb 1 a && leb b 0x7fff ≡ true → (cntl0 * (1 + n) < cntl1) × (cntl1 ≤ cntl0 * 2 + 0x7fff)
    to g =
        let l = leb-true 1 a (and_left (leb 1 a) (leb b 0x7fff) g) in
        let f = leb-true b 0x7fff (and_right (leb 1 a) (leb b 0x7fff) g) in
        (omega arith, omega arith)
