-- What a chain over the numbers below n answered, as the definitions have it.
use Prim.Native.Nat.{ℕ, zero, suc, ◌+◌, ◌<◌}
use mathlib.Core.List.{List}
use mathlib.Core.Bool.{Bool, true, false, ◌&&◌}
use mathlib.Core.Path.{◌≡◌, refl, sym, subst, ◌∙◌}
use mathlib.Core.Logic.{◌≢◌}
use native.Mathlib.Nat.{zero-add}
use native.Mathlib.Omega.{arith}
use lib.Dec.{eqb}
use lib.ListN.{length, get_or}
use borrow.Author.Tests.{eqb-true, eqb-false}
use Rattle.std.specs.Bool.{MatchBool}
use Rattle.std.specs.List.{range_with_len, AllWithin, HoldsAt}
use Rattle.std.proofs.lemmas.List.FromFn.{length-range_with_len, get_or-range_with_len}
use Rattle.unit.specs.TheUnit.{any, all}
use Rattle.unit.proofs.Tests.{any-yes, and_no, and_both}

abbrev below : ℕ → List ℕ
below n = range_with_len 0 n

-- f of the k-th number below n
nth : (f : ℕ → Bool) (b : Bool) (n k : ℕ) → k < n → f (get_or (below n) k 0) ≡ b → f k ≡ b
nth f b n k l h = subst (λ x. f x ≡ b) (get_or-range_with_len 0 n k 0 l ∙ zero-add k) h

any-none : (f : ℕ → Bool) (n : ℕ) → ((k : ℕ) → k < n → f k ≡ false) → any n 0 f ≡ false
unfolding any
any-none f zero h = refl
any-none f (suc n) h = rw (any-none f n (λ k l. h k (omega arith)), zero-add, h n (omega arith))

all-of : (f : ℕ → Bool) (n a : ℕ) → ((k : ℕ) → k < n → f (a + k) ≡ true) → all n a f ≡ true
unfolding all
all-of f zero a h = refl
all-of f (suc n) a h = and_both (all-of f n a (λ k l. h k (omega arith))) (h n (omega arith))

all-but : (f : ℕ → Bool) (n a k : ℕ) → k < n → f (a + k) ≡ false → all n a f ≡ false
unfolding all
all-but f zero a k l e = absurd (omega arith)
all-but f (suc n) a k l e = by (eqb k n) refl (λ m. all-but f n a k m e)
  where
    by : (b : Bool) → eqb k n ≡ b → (k < n → all n a f ≡ false) → (all n a f && f (a + n)) ≡ false
    by true t rest = and_no _ _ (subst (λ x. f (a + x) ≡ false) (eqb-true k n t) e)
    by false t rest =
        let d : k ≢ n = eqb-false k n t in
        let m : k < n = omega (arith, d) in
        rw (rest m)

pub any-chain : (n : ℕ) (f : ℕ → Bool) (r : Bool)
    → MatchBool r ((k : ℕ) × (k < length (below n)) × HoldsAt (λ x. f x ≡ true) (below n) k) (AllWithin (λ x. f x ≡ false) (below n) 0 (length (below n)))
    → r ≡ any n 0 f
any-chain n f true h =
    let l : h.0 < n = omega (arith, h.1, length-range_with_len 0 n) in
    sym (any-yes f h.0 n 0 (omega arith) (omega (arith, l)) (nth f true n h.0 l (h.2 0)))
any-chain n f false h = sym (any-none f n (λ k l. nth f false n k l (h k 0 (omega arith) (omega (arith, l, length-range_with_len 0 n)))))

pub all-chain : (n a : ℕ) (f : ℕ → Bool) (r : Bool)
    → MatchBool r (AllWithin (λ x. f (a + x) ≡ true) (below n) 0 (length (below n))) ((k : ℕ) × (k < length (below n)) × HoldsAt (λ x. f (a + x) ≡ false) (below n) k)
    → r ≡ all n a f
all-chain n a f true h =
    sym (all-of f n a (λ k l. nth (λ x. f (a + x)) true n k l (h k 0 (omega arith) (omega (arith, l, length-range_with_len 0 n)))))
all-chain n a f false h =
    let l : h.0 < n = omega (arith, h.1, length-range_with_len 0 n) in
    sym (all-but f n a h.0 l (nth (λ x. f (a + x)) false n h.0 l (h.2 0)))
