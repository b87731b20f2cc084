-- A fold over the numbers of a range, against a definition that counts them up.
use Rattle.std.proofs.Common.{◌≡◌, ℕ, zero, suc, ◌+◌, ap, ◌∙◌, arith}
use Rattle.std.specs.List.{fold, range_with_len}

fold-range : {C : Type 0} (h : C → ℕ → C) (f : ℕ → C) → ((n : ℕ) → h (f n) n ≡ f (n + 1)) → (a n : ℕ)
    → fold h (f a) (range_with_len a n) ≡ f (a + n)
fold-range h f step a zero = ap f (omega arith)
fold-range h f step a (suc n) =
    ap (λ x. fold h x (range_with_len (a + 1) n)) (step a) ∙ fold-range h f step (a + 1) n ∙ ap f (omega arith)

-- from 0 on
pub fold-to : {C : Type 0} (h : C → ℕ → C) (f : ℕ → C) → ((n : ℕ) → h (f n) n ≡ f (n + 1)) → (n : ℕ) → fold h (f 0) (range_with_len 0 n) ≡ f n
fold-to h f step n = fold-range h f step 0 n ∙ ap f (omega arith)
