-- The count of a faster speed is never larger: its period is not longer, and neither is that over the tick length.
use mathlib.Core.Path.{◌≡◌, refl}
use mathlib.Core.Bool.{false}
use Prim.Native.Nat.{ℕ, ◌*◌, ◌≤◌}
use native.Mathlib.Nat.{mul-one, mul_comm, mul_assoc, mul-mul-mul_comm, mul-le-mul_left, mul-le-mul_right}
use native.Mathlib.Omega.{arith}
use borrow.Author.Tests.{not-true}
use lib.Dec.{T}
use lib.Ieee.{Float, nan, inf, fin, binary64, div, lt, le}
use lib.Ieee.Positive.{num, den, positive}
use Rattle.floats.proofs.Quotient.{Finite, quotient-plain, quotients, finite-le, not-below}
use Rattle.nearest.specs.Counting.{count_of}
use Rattle.std.specs.Prelude.{Some, None}
use Rattle.nearest.proofs.NearestLaws.{nearest-whole}
use Rattle.sheet.specs.Numbers.{thousand, is_speedup, period_count, speed_count}
use Rattle.sheet.specs.Claims.{Faster}
use Rattle.sheet.proofs.NumberLaws.{passed}

-- ---- the orders of fractions

-- x / dx ≤ y / dy, each over t / dt
over-same : (x dx y dy t dt : ℕ) → x * dy ≤ y * dx → x * dt * (t * dy) ≤ y * dt * (t * dx)
over-same x dx y dy t dt h =
    rw (mul_comm t dy, mul_comm t dx, mul-mul-mul_comm x dt dy t, mul-mul-mul_comm y dt dx t) (mul-le-mul_right (dt * t) h)

-- x / dx ≤ y / dy, each under 1000
thousand-over : (x dx y dy : ℕ) → x * dy ≤ y * dx → 1000 * dy * (x * 1) ≤ 1000 * dx * (y * 1)
thousand-over x dx y dy h = rw (mul-one x, mul-one y, mul_assoc 1000 dy x, mul_assoc 1000 dx y, mul_comm dy x, mul_comm dx y) (mul-le-mul_left 1000 h)

-- ---- the periods of two speeds, and their counts

thousand-finite : Finite thousand
thousand-finite = (tt, λ (e : thousand ≡ inf false). let z : ◌≡◌ {A = ℕ} 0 1 = cc in omega arith)

endless : (y : Float) → T (positive y) → count_of (div binary64 (inf false) y) ≡ None
unfolding count_of div
endless nan p = absurd p
endless (inf s) p = absurd p
endless (fin s m e) p = refl

-- a period with a count is finite
counted-finite : (speed tick : Float) (k : ℕ) → T (positive speed) → T (positive tick) → speed_count speed tick ≡ Some k → Finite (div binary64 thousand speed)
unfolding speed_count period_count
counted-finite speed tick k s t h =
    (quotient-plain thousand speed thousand-finite s, λ (e : div binary64 thousand speed ≡ inf false). cc (endless tick t))

pub faster : Faster
unfolding is_speedup speed_count period_count
faster slow fast tick s f t o p q a b =
    let S = passed slow s in
    let F = passed fast f in
    let K = passed tick t in
    let x = div binary64 thousand slow in
    let y = div binary64 thousand fast in
    let X = counted-finite slow tick p S K a in
    let Y = counted-finite fast tick q F K b in
    let longer : T (le y x) = quotients thousand fast thousand slow thousand-finite thousand-finite F S (thousand-over (num slow) (den slow) (num fast) (den fast) (not-below slow fast S F (not-true (lt fast slow) o))) in
    let counts : T (le (div binary64 y tick) (div binary64 x tick)) = quotients y tick x tick Y X K K (over-same (num y) (den y) (num x) (den x) (num tick) (den tick) (finite-le y x Y X longer)) in
    nearest-whole.ordered (div binary64 y tick) (div binary64 x tick) q p (quotient-plain y tick Y K) (quotient-plain x tick X K) counts b a
