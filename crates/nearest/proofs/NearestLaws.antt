-- The claim `Nearest`.
use mathlib.Core.Path.{◌≡◌, refl, sym, ◌∙◌}
use mathlib.Core.Bool.{Bool, true, false, not}
use Prim.Native.Nat.{ℕ, ◌+◌, ◌*◌, ◌≤◌, ◌<◌}
use native.Mathlib.Nat.{mul-le-mul_right}
use native.Mathlib.Omega.{arith}
use borrow.Author.Tests.{le-leb, lt-leb, leb-true, leb-false}
use lib.IntN.{ℤ}
use lib.Dec.{T, leb}
use lib.Ieee.{Float, nan, inf, fin, up, down, le}
use lib.Ieee.Fits.{down_pos}
use Rattle.words.specs.Choice.{pick}
use Rattle.floats.specs.Plain.{is_plain}
use Rattle.floats.proofs.Quotient.{or-le}
use Rattle.nearest.specs.Counting.{half_up, in_count, count_of}
use Rattle.nearest.specs.Claims.{is_outside, Nearest}
use Rattle.std.specs.Prelude.{Some, None}
use Rattle.nearest.proofs.ValueLaws.{half-mono, half-from, half-to, half-large, same-le}

in_count_lem : (j k : ℕ) → in_count j ≡ Some k → j ≡ k
in_count_lem j k = go (leb j 0x7fff)
  where
    go : (b : Bool) → pick b (Some j) None ≡ Some k → j ≡ k
    go true e = cc
    go false e = cc

in-range : (j k : ℕ) → in_count j ≡ Some k → k ≤ 0x7fff
in-range j k = go (leb j 0x7fff) refl
  where
    go : (b : Bool) → leb j 0x7fff ≡ b → pick b (Some j) None ≡ Some k → k ≤ 0x7fff
    go true t e = let i : j ≡ k = cc in omega (arith, leb-true j 0x7fff t)
    go false t e = cc

-- ---- from zero up

within : (m : ℕ) (e : ℤ) (k : ℕ) → count_of (fin false m e) ≡ Some k → (2 * k * down e ≤ 2 * (m * up e) + down e) × (2 * (m * up e) + down e < 2 * (k + 1) * down e)
unfolding count_of
within m e k h =
    let i = in_count_lem (half_up (m * up e) (down e)) k h in
    (rw (← i) (half-from (m * up e) (down e) (down_pos e)), rw (← i) (half-to (m * up e) (down e) (down_pos e)))

outside-is : (j : ℕ) → is_outside (in_count j) ≡ leb 32768 j
outside-is j = go (leb j 0x7fff) refl
  where
    go : (b : Bool) → leb j 0x7fff ≡ b → is_outside (pick b (Some j) None) ≡ leb 32768 j
    go true t = sym (lt-leb 32768 j (omega (arith, leb-true j 0x7fff t)))
    go false t = sym (le-leb 32768 j (omega (arith, leb-false j 0x7fff t)))

-- $8000 halved up, and $7FFF + 1/2
from-half : (a c : ℕ) → 0 < c → 32768 ≤ half_up a c → 65535 * c ≤ 2 * a
from-half a c p h =
    let l = half-from a c p in
    let g : 65536 * c ≤ 2 * half_up a c * c = mul-le-mul_right c (omega arith) in
    omega arith

far : (m : ℕ) (e : ℤ) → is_outside (count_of (fin false m e)) ≡ leb (65535 * down e) (2 * (m * up e))
unfolding count_of
far m e =
    let p = down_pos e in
    outside-is (half_up (m * up e) (down e))
    ∙ same-le 32768 (half_up (m * up e) (down e)) (65535 * down e) (2 * (m * up e)) (from-half (m * up e) (down e) p) (half-large (m * up e) (down e) p)

-- ---- below zero

below : (m : ℕ) (e : ℤ) (k : ℕ) → count_of (fin true m e) ≡ Some k → (k ≡ 0) × (2 * (m * up e) ≤ down e)
unfolding count_of
below m e k = go (leb (2 * (m * up e)) (down e)) refl
  where
    go : (b : Bool) → leb (2 * (m * up e)) (down e) ≡ b → pick b (Some 0) None ≡ Some k → (k ≡ 0) × (2 * (m * up e) ≤ down e)
    go true t h = (cc, leb-true (2 * (m * up e)) (down e) t)
    go false t h = cc

under : (m : ℕ) (e : ℤ) → is_outside (count_of (fin true m e)) ≡ not (leb (2 * (m * up e)) (down e))
unfolding count_of
under m e = go (leb (2 * (m * up e)) (down e))
  where
    go : (b : Bool) → is_outside (pick b (Some 0) None) ≡ not b
    go true = refl
    go false = refl

up_to : (x : Float) (k : ℕ) → count_of x ≡ Some k → k ≤ 0x7fff
unfolding count_of
up_to nan k h = cc
up_to (inf s) k h = cc
up_to (fin false m e) k h = in-range (half_up (m * up e) (down e)) k h
up_to (fin true m e) k h = omega (arith, (below m e k h).0)

none : (is_outside (count_of nan) ≡ true) × ((s : Bool) → is_outside (count_of (inf s)) ≡ true)
unfolding count_of
none = (refl, λ s. refl)

-- ---- in order

ordered : (x y : Float) (p q : ℕ) → T (is_plain x) → T (is_plain y) → T (le x y) → count_of x ≡ Some p → count_of y ≡ Some q → p ≤ q
unfolding count_of le
ordered nan y p q X Y l a b = absurd X
ordered (inf s) y p q X Y l a b = cc
ordered (fin true m e) y p q X Y l a b = absurd X
ordered (fin false m e) nan p q X Y l a b = absurd Y
ordered (fin false m e) (inf t) p q X Y l a b = cc
ordered (fin false m e) (fin true n d) p q X Y l a b = absurd Y
ordered (fin false m e) (fin false n d) p q X Y l a b =
    let i = in_count_lem (half_up (m * up e) (down e)) p a in
    let j = in_count_lem (half_up (n * up d) (down d)) q b in
    let g = half-mono (m * up e) (down e) (n * up d) (down d) (down_pos e) (down_pos d) (or-le (m * up e * down d) (n * up d * down e) l) in
    omega arith

pub nearest-whole : Nearest
nearest-whole = record { within = within; up_to = up_to; far = far; below = below; under = under; none = none; ordered = ordered }
