-- Words are those of the state that they hold, a state is what its words hold, and the state after reset is packed as zeros.
use mathlib.Core.Path.{◌≡◌, refl, sym, ap, ◌∙◌}
use Prim.Native.Nat.{ℕ, zero, suc, ◌+◌, ◌-◌, ◌<◌, ◌≤◌}
use native.Mathlib.Nat.{le_of_eq}
use native.Mathlib.Numerals.{add-one}
use native.Mathlib.Omega.{arith}
use mathlib.Core.List.{List}
use lib.Dec.{ltb}
use lib.ListN.{length, take, get_or, length-set}
use lib.Seq.{take_all}
use Rattle.words.proofs.ChoiceLaws.{pick-cases, tests}
use Rattle.unit.specs.declared.Latches.{Latches}
use Rattle.unit.specs.declared.State.{State}
use Rattle.unit.specs.TheUnit.{Whole, none, reset_state}
use Rattle.pack.specs.Packing.{tabulate, packed_word, packed, zeros, latches_laid, word_in, reg_in, latches_in, state_in, Holds}
use Rattle.pack.specs.Exact.{OneState}
use Rattle.pack.proofs.Tabled.{length-tabled, tabled-at, tabled-is}
use Rattle.pack.proofs.Laid.{next-laid, laid}

-- ---- words

-- every word has its place in the state that the words hold
module _ (s : List ℕ) where
  is_at : (j i : ℕ) → j ≡ i → get_or s j 0 ≡ get_or s i 0
  is_at j i e = ap (λ (k : ℕ). get_or s k 0) e

  -- a number of one of the channels, whose words stand from `from` on
  kept_at : (f : Latches → ℕ) (from i : ℕ) → ((j : ℕ) → f (latches_in s j) ≡ get_or s (from + j) 0) → from ≤ i → i < from + 16
      → f (get_or (tabulate 16 (latches_in s)) (i - from) none) ≡ get_or s i 0
  kept_at f from i e l h = ap f (tabled-at (latches_in s) none 16 (i - from) (omega arith)) ∙ e (i - from) ∙ is_at (from + (i - from)) i (omega arith)

  word_back : (i : ℕ) → i < 211 → packed_word (state_in s) i ≡ get_or s i 0
  unfolding packed_word state_in
  word_back i h =
      pick-cases Is (ltb i 128) (λ t. tabled-at (word_in s) 0 128 i (omega (arith, tests)))
      (λ t. pick-cases Is (ltb i 140) (λ u. tabled-at (reg_in s) 0 12 (i - 128) (omega (arith, tests)) ∙ is_at (128 + (i - 128)) i (omega (arith, tests)))
      (λ u. pick-cases Is (ltb i 141) (λ v. is_at 140 i (omega (arith, tests)))
      (λ v. pick-cases Is (ltb i 142) (λ w. is_at 141 i (omega (arith, tests)))
      (λ w. pick-cases Is (ltb i 143) (λ a. is_at 142 i (omega (arith, tests)))
      (λ a. pick-cases Is (ltb i 159) (λ b. kept_at (λ (k : Latches). k.flags) 143 i (λ j. refl) (omega (arith, tests)) (omega (arith, tests)))
      (λ b. pick-cases Is (ltb i 175) (λ c. kept_at (λ (k : Latches). k.time) 159 i (λ j. refl) (omega (arith, tests)) (omega (arith, tests)))
      (λ c. pick-cases Is (ltb i 176) (λ d. is_at 175 i (omega (arith, tests)))
      (λ d. pick-cases Is (ltb i 177) (λ e. is_at 176 i (omega (arith, tests)))
      (λ e. pick-cases Is (ltb i 178) (λ f. is_at 177 i (omega (arith, tests)))
      (λ f. pick-cases Is (ltb i 179) (λ g. is_at 178 i (omega (arith, tests)))
      (λ g. pick-cases Is (ltb i 195) (λ j. kept_at (λ (k : Latches). k.late) 179 i (λ j. refl) (omega (arith, tests)) (omega (arith, tests)))
      (λ j. kept_at (λ (k : Latches). k.set) 195 i (λ j. refl) (omega (arith, tests)) h))))))))))))
    where
      Is : ℕ → Type 0
      Is x = x ≡ get_or s i 0

-- so the words are fixed by the state that they hold
pub exact : (s : List ℕ) → length s ≡ 211 → packed (state_in s) ≡ s
unfolding packed
exact s z = tabled-is (packed_word (state_in s)) 0 s 211 z (word_back s)

-- ---- a state

-- some words have the first n of these channels
some : (xs : List Latches) → length xs ≡ 16 → (n : ℕ) → n ≤ 16 → (s : List ℕ) × (length s ≡ 211) × (tabulate n (latches_in s) ≡ take n xs)
unfolding tabulate zeros
some xs l zero h = (zeros, refl, refl)
some xs l (suc n) h =
    let a = some xs l n (omega arith) in
    (latches_laid a.0 n (get_or xs n none), simp length-set a.1, rw add-one at (next-laid a.0 xs n a.1 l h a.2))

-- words that hold it are its own, so its own hold it
in-back : (st : State) → Whole st → Holds (packed st) st
unfolding packed
in-back st z =
    let a = some st.channels z.channels 16 (omega arith) in
    let h = laid st a.0 a.1 z.words z.regs (a.2 ∙ take_all 16 _ (le_of_eq z.channels)) in
    (length-tabled (packed_word st) 211, ap state_in (ap packed (sym h.1) ∙ exact _ h.0) ∙ h.1)

pub reset-zeros : packed reset_state ≡ zeros
unfolding zeros packed tabulate packed_word
reset-zeros = refl

pub one_state : OneState
one_state = record { exact = exact; back = in-back; reset = reset-zeros }
