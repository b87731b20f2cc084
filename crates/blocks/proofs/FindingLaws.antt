-- The block that is found is the best, and no other is.
use Rattle.std.proofs.Common.{◌≡◌, ℕ, Option, Some, None, zero, suc, ◌+◌, ◌<◌, ◌≤◌, true, false, ◌&&◌, ltb, List, ap, subst, add-one, arith, below_more, ltb-false}
use Rattle.words.proofs.ChoiceLaws.{pick-cases, not-both, and_left, and_right, tests}
use Rattle.blocks.specs.declared.Search.{Search}
use Rattle.blocks.specs.Blocks.{count}
use Rattle.blocks.specs.Finding.{fits, rank, better, found_below, found}
use Rattle.blocks.specs.Claims.{Best, Finds}

-- a block that is not sought changes nothing
pub unfit-stays : (b : List ℕ) (w : Search) (f : Option ℕ) (k : ℕ) → fits b w k ≡ false → better b w f k ≡ f
unfolding better
unfit-stays b w None k e = rw e
unfit-stays b w (Some j) k e = rw e

-- `Best` among the first n blocks
record BestBelow (b : List ℕ) (w : Search) (n k : ℕ) : Type 0 where
  within : k < n
  sought : fits b w k ≡ true
  highest : (j : ℕ) → j < n → fits b w j ≡ true → rank b w j ≤ rank b w k
  first : (j : ℕ) → j < k → fits b w j ≡ true → rank b w j < rank b w k

-- f is what is to be found among the first n blocks
abbrev Right : List ℕ → Search → ℕ → Option ℕ → Type 0
Right b w n (Some k) = BestBelow b w n k
Right b w n None = (j : ℕ) → j < n → fits b w j ≡ false

-- one block more
next : (b : List ℕ) (w : Search) (n : ℕ) (f : Option ℕ) → Right b w n f → Right b w (n + 1) (better b w f n)
unfolding better
next b w n None h =
    pick-cases (Right b w (n + 1)) (fits b w n)
    (λ e. record {
      within = omega arith;
      sought = e;
      highest = below_more _ n (λ j l s. absurd (not-both s (h j l))) (λ s. omega arith);
      first = λ j l s. absurd (not-both s (h j l));
    })
    (λ e. below_more _ n h e)
next b w n (Some k) h =
    pick-cases (Right b w (n + 1)) (fits b w n && ltb (rank b w k) (rank b w n))
    (λ e.
    let above = and_right (fits b w n) (ltb (rank b w k) (rank b w n)) e in
    record {
      within = omega arith;
      sought = and_left (fits b w n) (ltb (rank b w k) (rank b w n)) e;
      highest = below_more _ n (λ j l s. omega (arith, tests, h.highest j l s)) (λ s. omega arith);
      first = λ j l s. omega (arith, tests, h.highest j l s);
    })
    (λ e. record {
      within = omega (arith, h.within);
      sought = h.sought;
      highest = below_more _ n h.highest (λ s. omega (arith, ltb-false (rank b w k) (rank b w n) (rw s at e)));
      first = h.first;
    })

right : (b : List ℕ) (w : Search) (n : ℕ) → Right b w n (found_below b w n)
unfolding found_below
right b w zero = λ j l. absurd (omega arith)
right b w (suc n) = rw (← add-one n) (next b w n (found_below b w n) (right b w n))

found_right : (b : List ℕ) (w : Search) → Right b w (count b) (found b w)
unfolding found
found_right b w = right b w (count b)

at : (b : List ℕ) (w : Search) (k : ℕ) → found b w ≡ Some k → Best b w k
at b w k e =
    let h : BestBelow b w (count b) k = subst (Right b w (count b)) e (found_right b w) in
    record { within = h.within; sought = h.sought; highest = h.highest; first = h.first }

missing : (b : List ℕ) (w : Search) → found b w ≡ None → (j : ℕ) → j < count b → fits b w j ≡ false
missing b w e = subst (Right b w (count b)) e (found_right b w)

-- of two best blocks neither stands before the other
only_one : (b : List ℕ) (w : Search) (k : ℕ) → Best b w k → (f : Option ℕ) → Right b w (count b) f → f ≡ Some k
only_one b w k best None h = absurd (not-both best.sought (h k best.within))
only_one b w k best (Some j) h =
    let not-before : j < k → ⊥ = λ l. omega (arith, best.first j l h.sought, h.highest k best.within best.sought) in
    let not_behind : k < j → ⊥ = λ l. omega (arith, h.first k l best.sought, best.highest j h.within h.sought) in
    ap Some (omega arith)

pub finds : Finds
finds = record { at = at; only = λ b w k best. only_one b w k best (found b w) (found_right b w); missing = missing }
