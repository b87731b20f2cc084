-- The claim `Takes`: which numbers the tests take.
use mathlib.Core.Path.{◌≡◌, refl, sym, subst, ◌∙◌}
use mathlib.Core.Logic.{◌↔◌}
use mathlib.Core.Bool.{Bool, true, false, ◌&&◌, ◌||◌}
use Prim.Native.Nat.{ℕ, zero, suc, ◌*◌, ◌≤◌, ◌<◌}
use native.Mathlib.Nat.{zero-mul, mul-one, mul-pos}
use native.Mathlib.Omega.{arith}
use borrow.Author.Tests.{le-leb, leb-true, eqb-true, lt-ltb, ltb-true, not-true}
use lib.Dec.{T, leb, eqb, ltb, ltb→lt, lt→ltb}
use lib.Ieee.{Float, nan, inf, fin, up, down, lt, le}
use lib.Ieee.Fits.{up_pos}
use lib.Ieee.Positive.{positive, first_pos}
use Rattle.words.proofs.ChoiceLaws.{and_left, and_right, not-both}
use Rattle.nearest.proofs.ValueLaws.{same_test}
use Rattle.sheet.specs.Numbers.{is_rate_count, is_positive, is_difference, is_speedup}
use Rattle.sheet.specs.Claims.{AboveZero, NotBelowZero, Takes}

-- ---- a positive number, as the library has it: finite, the sign clear, and not 0

both : (p q : Bool) → (T p → T q) → (T q → T p) → p && true ≡ q
both true q i j = same_test true q i j
both false q i j = same_test false q i j

positive-is : (x : Float) → is_positive x ≡ positive x
unfolding is_positive lt
positive-is nan = refl
positive-is (inf true) = refl
positive-is (inf false) = refl
positive-is (fin true m e) = refl
positive-is (fin false m e) =
    rw (zero-mul (down e), mul-one (m * up e))
    (both (ltb 0 (m * up e)) (ltb 0 m) (λ t. lt→ltb 0 m (first_pos m (up e) (ltb→lt 0 (m * up e) t))) (λ t. lt→ltb 0 (m * up e) (mul-pos (ltb→lt 0 m t) (up_pos e))))

pub passed : (x : Float) → is_positive x ≡ true → T (positive x)
passed x h = subst T (sym h ∙ positive-is x) tt

above : (x : Float) → positive x ≡ true ↔ AboveZero x
above nan = (λ h. absurd (not-both h refl), λ h. absurd h)
above (inf s) = (λ h. absurd (not-both h refl), λ h. absurd h)
above (fin true m e) = (λ h. absurd (not-both h refl), λ h. absurd h)
above (fin false m e) = (ltb-true 0 m, lt-ltb 0 m)

-- ---- a difference: with the sign clear it is above 0 or equal to it, with the sign set equal at most

plus : (k : ℕ) → (ltb 0 k || eqb 0 k && true) && true ≡ true
plus zero = refl
plus (suc k) = rw (lt-ltb 0 (suc k) (omega arith))

minus : (k : ℕ) → (eqb 0 k && true) && true ≡ true → k ≡ 0
minus k h = sym (eqb-true 0 k (and_left (eqb 0 k) true (and_left (eqb 0 k && true) true h)))

value-zero : (m u : ℕ) → 0 < u → m * u ≡ 0 → m ≡ 0
value-zero zero u p h = refl
value-zero (suc m) u p h = let q : 0 < suc m * u = mul-pos (omega arith) p in absurd (omega arith)

not-below : (x : Float) → is_difference x ≡ true ↔ NotBelowZero x
unfolding is_difference lt le
not-below nan = (λ h. absurd (not-both h refl), λ h. absurd h)
not-below (inf true) = (λ h. absurd (not-both h refl), λ h. absurd h)
not-below (inf false) = (λ h. absurd (not-both h refl), λ h. absurd h)
not-below (fin true m e) =
    rw (zero-mul (down e), mul-one (m * up e)) (λ h. value-zero m (up e) (up_pos e) (minus (m * up e) h), λ h. rw (h, zero-mul (up e)))
not-below (fin false m e) =
    rw (zero-mul (down e), mul-one (m * up e)) (λ h. omega arith, λ h. plus (m * up e))

-- ---- N, and two speeds

rates : (n : ℕ) → is_rate_count n ≡ true ↔ (1 ≤ n) × (n ≤ 14)
unfolding is_rate_count
rates n = (to, λ h. rw (le-leb 1 n h.0, le-leb n 14 h.1))
  where
    to : is_rate_count n ≡ true → (1 ≤ n) × (n ≤ 14)
    to h = (omega (arith, leb-true _ n (and_left _ _ h)), leb-true n 14 (and_right (leb _ n) (leb n 14) h))

speedup : (slow fast : Float) → is_speedup slow fast ≡ true ↔ lt fast slow ≡ false
unfolding is_speedup
speedup slow fast = (not-true (lt fast slow), λ h. rw h)

pub takes : Takes
takes = record { rates = rates; positive = λ x. rw (positive-is x) (above x); difference = not-below; speedup = speedup }
