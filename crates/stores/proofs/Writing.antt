-- Lent words of which some are changed: what changes of the state that they hold.
use Prim.Native.Nat.{ℕ, ◌+◌, ◌<◌}
use mathlib.Core.Bool.{Bool, true, false}
use mathlib.Core.List.{List}
use mathlib.Core.Logic.{◌≢◌}
use mathlib.Core.Path.{◌≡◌, refl, sym, ◌∙◌}
use native.Mathlib.Omega.{arith}
use lib.Dec.{eqb}
use lib.ListN.{get_or, set, length-set}
use lib.Seq.{get_or-set_same, get_or-set_other}
use borrow.Author.Tests.{eqb-true, eqb-false}
use Rattle.unit.specs.declared.Latches.{Latches}
use Rattle.unit.specs.declared.State.{State}
use Rattle.unit.specs.TheUnit.{none, with_words, with_reg, with_timers, with_pins, with_slots}
use Rattle.pack.specs.Packing.{tabulate, word_in, reg_in, latches_in, slots_in, state_in}
use Rattle.pack.proofs.Tabled.{length-tabled, tabled-at, tabled-is, tabled-same}
use Rattle.pack.proofs.Kept.{Kept, Apart, others_same}

-- the state with these numbers kept of c
unfoldable pub with_latches : State → ℕ → Latches → State
with_latches s c k = record { words = s.words; regs = s.regs; timers = s.timers; pins = s.pins; channels = set s.channels c k; slots = s.slots }

-- a list made of other values at one place is that list with one element set
tabled-set : {A : Type 0} (f g : ℕ → A) (d : A) (n j : ℕ) → j < n → ((i : ℕ) → i < n → i ≢ j → g i ≡ f i) → tabulate n g ≡ set (tabulate n f) j (g j)
tabled-set f g d n j h same = tabled-is g d (set (tabulate n f) j (g j)) n (length-set (tabulate n f) j (g j) ∙ length-tabled f n) each
  where
    by-test : (i : ℕ) → i < n → (b : Bool) → eqb i j ≡ b → g i ≡ get_or (set (tabulate n f) j (g j)) i d
    by-test i l true t =
        let e : i ≡ j = eqb-true i j t in
        rw (e) (sym (get_or-set_same (tabulate n f) j (g j) d (rw (length-tabled f n) h)))
    by-test i l false t =
        let e : i ≢ j = eqb-false i j t in
        same i l e ∙ (sym (tabled-at f d n i l) ∙ sym (get_or-set_other (tabulate n f) j i (g j) d e))

    each : (i : ℕ) → i < n → g i ≡ get_or (set (tabulate n f) j (g j)) i d
    each i l = by-test i l (eqb i j) refl

-- ---- words that agree but for some

-- the parts that stand apart from those are the same
module _ {apart : ℕ → Type 0} (s t : List ℕ) (a : Kept apart s t) where
  words_same : ((i : ℕ) → i < 128 → apart i) → tabulate 128 (word_in t) ≡ tabulate 128 (word_in s)
  words_same n = tabled-same (word_in s) (word_in t) 0 128 (λ i l. a i (n i l))

  regs_same : ((i : ℕ) → i < 12 → apart (128 + i)) → tabulate 12 (reg_in t) ≡ tabulate 12 (reg_in s)
  regs_same n = tabled-same (reg_in s) (reg_in t) 0 12 (λ i l. a (128 + i) (n i l))

  channels-same : ((i : ℕ) → i < 16 → apart (143 + i) × apart (159 + i) × apart (179 + i) × apart (195 + i)) → tabulate 16 (latches_in t) ≡ tabulate 16 (latches_in s)
  channels-same n =
      tabled-same (latches_in s) (latches_in t) none 16
      (λ i l. let m = n i l in rw (a (143 + i) m.0, a (159 + i) m.1, a (179 + i) m.2, a (195 + i) m.3))

  slots_same : apart 175 × apart 176 × apart 177 × apart 178 → slots_in t ≡ slots_in s
  slots_same n = rw (a 175 n.0, a 176 n.1, a 177 n.2, a 178 n.3)

-- the part that does not is another
module _ (s t : List ℕ) where
  pub word-changed : (at : ℕ) → at < 128 → Kept (λ i. i ≢ at) s t → state_in t ≡ with_words (state_in s) (set (state_in s).words at (get_or t at 0))
  unfolding state_in with_words
  word-changed at h a =
      rw (tabled-set (word_in s) (word_in t) 0 128 at h (λ i l n. a i n), regs_same s t a (omega arith), a 140 (omega arith), a 141 (omega arith))
      (rw (a 142 (omega arith), channels-same s t a (omega arith), slots_same s t a (omega arith)))

  pub reg-changed : (k : ℕ) → k < 12 → Kept (λ i. i ≢ 128 + k) s t → state_in t ≡ with_reg (state_in s) k (get_or t (128 + k) 0)
  unfolding state_in with_reg
  reg-changed k h a =
      rw (words_same s t a (omega arith), tabled-set (reg_in s) (reg_in t) 0 12 k h (λ i l n. a (128 + i) (omega arith)), a 140 (omega arith))
      (rw (a 141 (omega arith), a 142 (omega arith), channels-same s t a (omega arith), slots_same s t a (omega arith)))

  pub timers-changed : Kept (λ i. (i ≢ 140) × (i ≢ 141)) s t → state_in t ≡ with_timers (state_in s) record { tcr1 = get_or t 140 0; tcr2 = get_or t 141 0 }
  unfolding state_in with_timers
  timers-changed a =
      rw (words_same s t a (omega arith), regs_same s t a (omega arith))
      (rw (a 142 (omega arith), channels-same s t a (omega arith), slots_same s t a (omega arith)))

  pub pins-changed : Kept (λ i. i ≢ 142) s t → state_in t ≡ with_pins (state_in s) (get_or t 142 0)
  unfolding state_in with_pins
  pins-changed a =
      rw (words_same s t a (omega arith), regs_same s t a (omega arith), a 140 (omega arith))
      (rw (a 141 (omega arith), channels-same s t a (omega arith), slots_same s t a (omega arith)))

  pub slots-changed : Kept (λ i. (i ≢ 175) × (i ≢ 176) × (i ≢ 177) × (i ≢ 178)) s t → state_in t ≡ with_slots (state_in s) (slots_in t)
  unfolding state_in with_slots
  slots-changed a =
      rw (words_same s t a (omega arith), regs_same s t a (omega arith), a 140 (omega arith))
      (rw (a 141 (omega arith), a 142 (omega arith), channels-same s t a (omega arith)))

  pub latches-changed : (c : ℕ) → c < 16 → Kept (Apart c) s t → state_in t ≡ with_latches (state_in s) c (latches_in t c)
  unfolding state_in with_latches
  latches-changed c h a =
      rw (words_same s t a (omega arith), regs_same s t a (omega arith), a 140 (omega arith), a 141 (omega arith))
      (rw (a 142 (omega arith), tabled-set (latches_in s) (latches_in t) none 16 c h (λ i l n. others_same s t c i h l n a), slots_same s t a (omega arith)))
