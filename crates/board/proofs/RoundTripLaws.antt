-- A load takes the block that a save wrote, and brings back what it holds.
use Rattle.std.proofs.Common.{Some, Result, Ok, Err}
use Prim.Native.Nat.{ℕ, ◌+◌, ◌-◌, ◌<◌}
use native.Mathlib.Omega.{arith}
use mathlib.Core.Bool.{true, false}
use mathlib.Core.List.{List, [], ◌∷◌}
use mathlib.Core.Logic.{◌≢◌, ◌⊎◌, ⊎_elim}
use mathlib.Core.Path.{◌≡◌, refl, sym, subst, ◌∙◌, ap}
use lib.Dec.{eqb}
use borrow.Author.Tests.{lt-ltb, eq-eqb, ne_eqb, eqb-true}
use Rattle.words.proofs.ChoiceLaws.{and_left, and_right}
use Rattle.unit.specs.declared.State.{State}
use Rattle.blocks.specs.declared.Search.TheVariants.{Newest, Named}
use Rattle.blocks.specs.Blocks.{count, word_in, version, is_sound}
use Rattle.blocks.specs.Finding.{fits, rank, found}
use Rattle.blocks.proofs.FindingLaws.{finds}
use Rattle.keeping.specs.declared.Refusal.{Refusal}
use Rattle.keeping.specs.declared.Which.{Which}
use Rattle.keeping.specs.declared.Which.TheVariants.{Latest, Version}
use Rattle.keeping.specs.Layout.{settings, setting, held_word, block_word}
use Rattle.keeping.specs.Keeping.{place_of, save_of, store_after, sought, load_of}
use Rattle.keeping.proofs.LayoutLaws.{block-word}
use Rattle.board.specs.Saves.{Holds, SaveIs}
use Rattle.board.specs.Loads.{ToLoad, AllFree, Loads}
use Rattle.unit.specs.TheUnit.{Whole}
use Rattle.board.specs.RoundTrip.{Restored, store_after_all, Spares, RoundTrip}
use Rattle.board.proofs.PlaceLaws.{same-or-other, same_count}
use Rattle.board.proofs.SaveLaws.{held-version, older, saves}
use Rattle.board.proofs.ToLoadLaws.{to-load-found, found-to-load}
use Rattle.board.proofs.LoadLaws.{load-taken}

-- ---- a block that holds a save

held-layout : (s : State) (v : ℕ) (b : List ℕ) (k : ℕ) → Holds s v b k → word_in b k 0 ≡ 1
unfolding Holds block_word held_word
held-layout s v b k holds = holds 0 (omega arith)

setting-word : (s : State) (v n : ℕ) → n < settings → held_word s v (3 + n) ≡ setting s n
unfolding held_word
setting-word s v n l =
    let i = 3 + n in
    let back : i - 3 ≡ n = omega arith in
    let past : (m : ℕ) → m < 3 → eqb i m ≡ false = λ m l. ne_eqb i m (λ e. omega arith) in
    rw (past 0 (omega arith), past 1 (omega arith), past 2 (omega arith), lt-ltb i 109 (omega arith), back)

held-setting : (s : State) (v : ℕ) (b : List ℕ) (k n : ℕ) → Holds s v b k → n < settings → word_in b k (3 + n) ≡ setting s n
unfolding Holds
held-setting s v b k n holds l = holds (3 + n) (omega arith) ∙ block-word s v (3 + n) (omega arith) ∙ setting-word s v n l

-- ---- blocks of a version

named-fits : (b : List ℕ) (v k : ℕ) → is_sound b k ≡ true → version b k ≡ v → fits b (Named v) k ≡ true
unfolding fits
named-fits b v k sound e = rw (sound, eq-eqb (version b k) v e)

named-sound : (b : List ℕ) (v k : ℕ) → fits b (Named v) k ≡ true → is_sound b k ≡ true
unfolding fits
named-sound b v k fit = and_left (is_sound b k) (eqb (version b k) v) fit

named-version : (b : List ℕ) (v k : ℕ) → fits b (Named v) k ≡ true → version b k ≡ v
unfolding fits
named-version b v k fit = eqb-true (version b k) v (and_right (is_sound b k) (eqb (version b k) v) fit)

-- the first sound block of a version is the one that is found by its number
named-first : (b : List ℕ) (v k : ℕ) → k < count b → fits b (Named v) k ≡ true → ((j : ℕ) → j < k → fits b (Named v) j ≡ true → ⊥)
    → found b (Named v) ≡ Some k
unfolding rank
named-first b v k l fit first =
    finds.only b (Named v) k
    record { within = l; sought = fit; highest = λ j m e. omega arith; first = λ j m e. absurd (first j m e) }

-- ---- right after a save

module _ (s : State) (b : List ℕ) (v : ℕ) (is : SaveIs s b v) where
  newest-written : found (store_after s b) Newest ≡ Some (place_of b)
  unfolding fits rank
  newest-written =
      let c = store_after s b in
      finds.only c Newest (place_of b)
      record {
        within = rw (same_count s b) is.within;
        sought = is.sound;
        highest = λ j l sound.
            ⊎_elim
            (λ e. omega (arith, ap (version c) e))
            (λ other. omega (arith, is.named, older s b v is j (rw (same_count s b) at l) other sound))
            (same-or-other j (place_of b));
        first = λ j l sound. omega (arith, is.named, older s b v is j (omega (arith, is.within)) (λ e. omega arith) sound);
      }

  named-written : found (store_after s b) (Named v) ≡ Some (place_of b)
  named-written =
      let c = store_after s b in
      let k = place_of b in
      named-first c v k (rw (same_count s b) is.within) (named-fits c v k is.sound is.named)
      (λ j l fit.
      let before = older s b v is j (omega (arith, is.within)) (λ e. omega arith) (named-sound c v j fit) in
      omega (arith, named-version c v j fit))

  written-found : (w : Which) → (w ≡ Latest) ⊎ (w ≡ Version v) → found (store_after s b) (sought w) ≡ Some (place_of b)
  unfolding sought
  written-found w which = ⊎_elim (λ e. rw e newest-written) (λ e. rw e named-written) which

-- ---- after further saves

named-same : (b c : List ℕ) (v j : ℕ) → is_sound c j ≡ is_sound b j → version c j ≡ version b j
    → fits c (Named v) j ≡ fits b (Named v) j
unfolding fits
named-same b c v j sound e = rw (sound, e)

named-stays : (u : State) (b : List ℕ) (v k x : ℕ) → SaveIs u b x → found b (Named v) ≡ Some k → k ≢ place_of b
    → found (store_after u b) (Named v) ≡ Some k
unfolding rank
named-stays u b v k x is e other =
    let c = store_after u b in
    let best = finds.at b (Named v) k e in
    let same : (j : ℕ) → j ≢ place_of b → fits c (Named v) j ≡ fits b (Named v) j =
    λ j o. named-same b c v j (is.stands j o) (is.versions j o) in
    let older = is.greatest k best.within (named-sound b v k best.sought) in
    let name = named-version b v k best.sought in
    named-first c v k (rw (same_count u b) best.within) (same k other ∙ best.sought)
    (λ j l fit.
    ⊎_elim
    (λ p. omega (arith, named-version c v j fit, ap (version c) p, is.named))
    (λ o. omega (arith, best.first j l (sym (same j o) ∙ fit)))
    (same-or-other j (place_of b)))

-- block k holds a save, and is found by its version
abbrev Found-still : State → ℕ → ℕ → List ℕ → Type 0
Found-still s v k b = Holds s v b k × (found b (Named v) ≡ Some k)

kept_by : (s u : State) (b : List ℕ) (v k x : ℕ) → Found-still s v k b → SaveIs u b x → k ≢ place_of b → Found-still s v k (store_after u b)
unfolding Holds
kept_by s u b v k x h is other = (λ i l. is.words k i other l ∙ h.0 i l, named-stays u b v k x is h.1 other)

kept-one : (s u : State) (b : List ℕ) (v k : ℕ) → Found-still s v k b → ((x : ℕ) → save_of b ≡ Ok x → k ≢ place_of b)
    → Found-still s v k (store_after u b)
kept-one s u b v k h spared = told (save_of b) refl
  where
    told : (r : Result ℕ Refusal) → save_of b ≡ r → Found-still s v k (store_after u b)
    told (Ok x) e = kept_by s u b v k x h (saves.taken u b x e) (spared x e)
    told (Err r) e = subst (Found-still s v k) (sym (saves.refused u b r e).1) h

kept : (us : List State) (b : List ℕ) (s : State) (v k : ℕ) → Found-still s v k b → Spares k us b → Found-still s v k (store_after_all us b)
unfolding store_after_all Spares
kept [] b s v k h spared = h
kept (u ∷ us) b s v k h spared = kept us (store_after u b) s v k (kept-one s u b v k h spared.0) spared.1

kept-to-load : (s : State) (us : List State) (b : List ℕ) (v k : ℕ) → Holds s v b k → ToLoad b (Version v) k → Spares k us b
    → Holds s v (store_after_all us b) k × ToLoad (store_after_all us b) (Version v) k
unfolding sought
kept-to-load s us b v k holds x spared =
    let h = kept us b s v k (holds, to-load-found b (Version v) k x) spared in
    (h.0, found-to-load (store_after_all us b) (Version v) k h.1)

-- ---- the load

later : Loads → (s t : State) (b : List ℕ) (v k : ℕ) (w : Which) → Holds s v b k → found b (sought w) ≡ Some k → Whole t
    → AllFree t → Restored s t v (load_of t w b)
later loads s t b v k w holds e whole free =
    rw (load-taken t w b k e (held-layout s v b k holds) free) record {
      answer = ap Ok (held-version s v b k holds);
      same = λ n l. loads.brings t b k n whole free l ∙ held-setting s v b k n holds l;
      leaves = loads.leaves t b k whole free;
    }

pub round_trip : Loads → RoundTrip
round_trip loads = record {
  at-once = λ s t b v w e which whole free.
      let is = saves.taken s b v e in
      later loads s t (store_after s b) v (place_of b) w is.holds (written-found s b v is w which) whole free;
  later = λ s t b v k w holds x whole free. later loads s t b v k w holds (to-load-found b w k x) whole free;
  kept = kept-to-load;
}
