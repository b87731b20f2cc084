-- What a test or a turn that has fuel comes to.
use Prim.Native.Nat.{ℕ, zero, suc, ◌-◌, ◌<◌}
use native.Mathlib.Omega.{arith}
use mathlib.Core.Path.{◌≡◌, ap}
use borrow.Author.Tests.{lt-ltb, le-ltb, ne_eqb}
use Rattle.motor.specs.declared.Way.{Way}
use Rattle.motor.specs.declared.Way.TheVariants.{Right, Left}
use Rattle.motor.specs.declared.Motor.{Motor}
use Rattle.motor.specs.declared.Outcome.TheVariants.{Step}
use Rattle.std.specs.Prelude.{Some, None}
use Rattle.motor.specs.Stepping.{choice, ahead, test as test_of, turn}

-- a turn that has fuel goes by its choice
pub onward : (w : Way) (fuel k : ℕ) (m : Motor) → 0 < fuel → choice (ahead w m) m.top m.rate ≡ Some k → turn fuel w m ≡ Step w k
unfolding turn
onward w zero k m f h = absurd (omega arith)
onward w (suc n) k m f h = rw h

pub back : (w : Way) (fuel : ℕ) (m : Motor) → 0 < fuel → choice (ahead w m) m.top m.rate ≡ None → turn fuel w m ≡ test_of (fuel - 1) m
unfolding turn
back w zero m f h = absurd (omega arith)
back w (suc n) m f h = let e : n ≡ suc n - 1 = omega arith in rw h (ap (λ k. test_of k m) e)

-- a test that has fuel goes to the turn towards the target
pub to-right : (fuel : ℕ) (m : Motor) → 0 < fuel → m.position < m.target → test_of fuel m ≡ turn (fuel - 1) Right m
unfolding test_of
to-right zero m f h = absurd (omega arith)
to-right (suc n) m f h =
    let e : n ≡ suc n - 1 = omega arith in
    rw (ne_eqb m.target m.position (λ q. omega arith), lt-ltb m.position m.target h) (ap (λ k. turn k Right m) e)

pub to-left : (fuel : ℕ) (m : Motor) → 0 < fuel → m.target < m.position → test_of fuel m ≡ turn (fuel - 1) Left m
unfolding test_of
to-left zero m f h = absurd (omega arith)
to-left (suc n) m f h =
    let e : n ≡ suc n - 1 = omega arith in
    rw (ne_eqb m.target m.position (λ q. omega arith), le-ltb m.position m.target (omega arith)) (ap (λ k. turn k Left m) e)
