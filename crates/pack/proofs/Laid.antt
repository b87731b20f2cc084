-- Words in which a state is laid: the channels one by one, then the rows between theirs.
use Prim.Native.Nat.{ℕ, ◌+◌, ◌-◌, ◌<◌, ◌≤◌}
use mathlib.Core.List.{List, [], ◌∷◌, ◌++◌}
use mathlib.Core.Path.{◌≡◌, sym, ap, subst, ◌∙◌}
use native.Mathlib.Nat.{zero-add}
use native.Mathlib.Numerals.{add-one}
use native.Mathlib.Omega.{arith}
use lib.ListN.{length, take, drop, get_or, length-append, length-take, length-drop, get_or-append}
use lib.Seq.{length-take-le, take-suc, get_or-append-add, get_or-take, get_or-drop}
use Rattle.unit.specs.declared.Latches.{Latches}
use Rattle.unit.specs.declared.State.{State}
use Rattle.unit.specs.TheUnit.{none}
use Rattle.pack.specs.Packing.{tabulate, row_laid, latches_laid, word_in, reg_in, latches_in, state_in, Holds}
use Rattle.pack.proofs.Tabled.{tabled-same, tabled-is}
use Rattle.pack.proofs.Kept.{others_same, laid_beside, laid_same}

-- one channel more
pub next-laid : (s : List ℕ) (xs : List Latches) (i : ℕ) → length s ≡ 211 → length xs ≡ 16 → i < 16 → tabulate i (latches_in s) ≡ take i xs
    → tabulate (i + 1) (latches_in (latches_laid s i (get_or xs i none))) ≡ take (i + 1) xs
unfolding tabulate
next-laid s xs i z l h p =
    let x = get_or xs i none in
    let t = latches_laid s i x in
    let before = tabled-same (latches_in s) (latches_in t) none i (λ j g. others_same s t i j h (omega arith) (omega arith) (laid_beside s i x)) in
    rw (add-one, take-suc xs i none (omega arith), before, p, laid_same s i x z h)

-- ---- a row

module _ (s row : List ℕ) (at : ℕ) (h : at + length row ≤ length s) where
  from_at : (i : ℕ) → get_or (row_laid s at row) (at + i) 0 ≡ get_or (row ++ drop (length row) (drop at s)) i 0
  unfolding row_laid
  from_at i = ap (λ (k : ℕ). get_or (row_laid s at row) (k + i) 0) (sym (length-take-le at s (omega arith))) ∙ get_or-append-add (take at s) _ i 0

  row-length : length (row_laid s at row) ≡ length s
  unfolding row_laid
  row-length = simp (length-append, length-take, length-drop) (omega arith)

  row_in : (i : ℕ) → i < length row → get_or (row_laid s at row) (at + i) 0 ≡ get_or row i 0
  row_in i l = from_at i ∙ get_or-append row _ 0 i l

  row_below : (i : ℕ) → i < at → get_or (row_laid s at row) i 0 ≡ get_or s i 0
  unfolding row_laid
  row_below i l = get_or-append (take at s) _ 0 i (rw (length-take-le at s (omega arith)) l) ∙ get_or-take at s i 0 l

  row-above : (i : ℕ) → at + length row ≤ i → get_or (row_laid s at row) i 0 ≡ get_or s i 0
  row-above i l =
      let j : ℕ = i - (at + length row) in
      let e : at + (length row + (i - (at + length row))) ≡ i = omega arith in
      subst (λ (k : ℕ). get_or (row_laid s at row) k 0 ≡ get_or s k 0) e
      (from_at (length row + j) ∙ get_or-append-add row _ j 0 ∙ get_or-drop (length row) (drop at s) j 0 ∙ get_or-drop at s (length row + j) 0)

-- ---- the state

module _ (st : State) (s : List ℕ) (l : length s ≡ 211) (w : length st.words ≡ 128) (r : length st.regs ≡ 12) where
  abbrev timers : List ℕ
  timers = st.timers.tcr1 ∷ st.timers.tcr2 ∷ st.pins ∷ []

  abbrev slots : List ℕ
  slots = st.slots.slot ∷ st.slots.high ∷ st.slots.middle ∷ st.slots.low ∷ []

  abbrev first : List ℕ
  first = row_laid s 0 st.words

  abbrev second : List ℕ
  second = row_laid first 128 st.regs

  abbrev third : List ℕ
  third = row_laid second 140 timers

  abbrev last : List ℕ
  last = row_laid third 175 slots

  fits-words : 0 + length st.words ≤ length s
  fits-words = omega arith

  fits-regs : 128 + length st.regs ≤ length first
  fits-regs = omega (arith, row-length s st.words 0 fits-words)

  long : length second ≡ 211
  long = row-length first st.regs 128 fits-regs ∙ row-length s st.words 0 fits-words ∙ l

  fits-timers : 140 + 3 ≤ length second
  fits-timers = omega (arith, long)

  fits-slots : 175 + 4 ≤ length third
  fits-slots = omega (arith, long, row-length second timers 140 fits-timers)

  below-slots : (i : ℕ) → i < 175 → get_or last i 0 ≡ get_or third i 0
  below-slots i h = row_below third slots 175 fits-slots i h

  low : (i : ℕ) → i < 140 → get_or last i 0 ≡ get_or second i 0
  low i h = below-slots i (omega arith) ∙ row_below second timers 140 fits-timers i h

  timer : (i : ℕ) → i < 3 → get_or last (140 + i) 0 ≡ get_or timers i 0
  timer i h = below-slots (140 + i) (omega arith) ∙ row_in second timers 140 fits-timers i h

  -- what stands above the timers and the pins
  high : (i : ℕ) → 143 ≤ i → get_or third i 0 ≡ get_or s i 0
  high i h =
      row-above second timers 140 fits-timers i h
      ∙ row-above first st.regs 128 fits-regs i (omega arith) ∙ row-above s st.words 0 fits-words i (omega arith)

  middle : (i : ℕ) → 143 ≤ i → i < 175 → get_or last i 0 ≡ get_or s i 0
  middle i g h = below-slots i h ∙ high i g

  end : (i : ℕ) → 179 ≤ i → get_or last i 0 ≡ get_or s i 0
  end i g = row-above third slots 175 fits-slots i g ∙ high i (omega arith)

  words-laid : tabulate 128 (word_in last) ≡ st.words
  words-laid = tabled-is (word_in last) 0 st.words 128 w each
    where
      each : (i : ℕ) → i < 128 → word_in last i ≡ get_or st.words i 0
      each i h = low i (omega arith) ∙ row_below first st.regs 128 fits-regs i h ∙ (rw zero-add at (row_in s st.words 0 fits-words i (omega arith)))

  regs-laid : tabulate 12 (reg_in last) ≡ st.regs
  regs-laid = tabled-is (reg_in last) 0 st.regs 12 r (λ i h. low (128 + i) (omega arith) ∙ row_in first st.regs 128 fits-regs i (omega arith))

  channels-kept : tabulate 16 (latches_in last) ≡ tabulate 16 (latches_in s)
  channels-kept = tabled-same (latches_in s) (latches_in last) none 16 each
    where
      each : (i : ℕ) → i < 16 → latches_in last i ≡ latches_in s i
      each i h =
          rw (middle (143 + i) (omega arith) (omega arith), middle (159 + i) (omega arith) (omega arith))
          (rw (end (179 + i) (omega arith), end (195 + i) (omega arith)))

  slot : (i : ℕ) → i < 4 → get_or last (175 + i) 0 ≡ get_or slots i 0
  slot i h = row_in third slots 175 fits-slots i h

  pub laid : tabulate 16 (latches_in s) ≡ st.channels → Holds last st
  unfolding state_in
  laid e = (
    row-length third slots 175 fits-slots ∙ row-length second timers 140 fits-timers ∙ long,
    rw (
      words-laid,
      regs-laid,
      timer 0 (omega arith),
      timer 1 (omega arith),
      timer 2 (omega arith),
      channels-kept ∙ e,
      slot 0 (omega arith),
      slot 1 (omega arith),
      slot 2 (omega arith),
      slot 3 (omega arith),
    ),
  )
