-- What the store holds after a save.
use Rattle.std.proofs.Common.{Some}
use Prim.Native.Nat.{ℕ, suc, ◌<◌}
use native.Mathlib.Omega.{arith}
use mathlib.Core.Bool.{Bool, true, false}
use mathlib.Core.List.{List}
use mathlib.Core.Logic.{◌≢◌, ⊎_elim}
use mathlib.Core.Path.{◌≡◌, refl, sym, ◌∙◌}
use borrow.Author.Tests.{eq-eqb}
use Rattle.unit.specs.declared.State.{State}
use Rattle.blocks.specs.declared.Search.TheVariants.{Newest}
use Rattle.blocks.specs.Blocks.{count, word_in, version, check_word, is_sound}
use Rattle.blocks.specs.Finding.{fits, found}
use Rattle.blocks.proofs.SoundLaws.{sum_same}
use Rattle.blocks.proofs.WordLaws.{laid_word, laid-other, count-good, sound-same, version-same}
use Rattle.blocks.proofs.FindingLaws.{finds}
use Rattle.keeping.specs.Layout.{held_word, block_word}
use Rattle.keeping.specs.Keeping.{greatest, place_of, may_save, store_after}
use Rattle.keeping.proofs.LayoutLaws.{block-word}
use Rattle.board.specs.Saves.{Holds, SaveIs, Distinct, Saves}
use Rattle.board.proofs.PlaceLaws.{same-or-other, Next, next_of, taken_next, refused-not}
use Rattle.board.proofs.PlaceLaws.{after-taken, after-refused, same_length, same_count, below-greatest, worst, elsewhere}

-- ---- the store after a save

-- a block that holds what a save writes is sound and has its version
held-sound : (s : State) (v : ℕ) (b : List ℕ) (k : ℕ) → Holds s v b k → is_sound b k ≡ true
unfolding Holds is_sound block_word check_word
held-sound s v b k holds =
    let same = sum_same (word_in b k) (held_word s v) 255 (λ j l. holds j (omega arith) ∙ block-word s v j l) in
    eq-eqb (word_in b k 255) (check_word (word_in b k)) (rw same (holds 255 (omega arith)))

pub held-version : (s : State) (v : ℕ) (b : List ℕ) (k : ℕ) → Holds s v b k → version b k ≡ v
unfolding Holds version block_word held_word
held-version s v b k holds = omega (arith, holds 1 (omega arith), holds 2 (omega arith))

save-is : (s : State) (b : List ℕ) (v : ℕ) → Next b v → SaveIs s b v
unfolding Holds
save-is s b v n =
    let k = place_of b in
    let e = after-taken s b v n in
    let within = (worst b n.store).within in
    let holds : (i : ℕ) → i < 256 → word_in (store_after s b) k i ≡ block_word s v i =
    λ i l. rw e (laid_word (block_word s v) b k 256 i (omega arith) l (count-good b k within)) in
    let words : (j i : ℕ) → j ≢ k → i < 256 → word_in (store_after s b) j i ≡ word_in b j i =
    λ j i other l. rw e (laid-other (block_word s v) b k 256 j i (omega arith) l other) in
    record {
      within = within;
      holds = holds;
      sound = held-sound s v (store_after s b) k holds;
      named = held-version s v (store_after s b) k holds;
      words = words;
      stands = λ j other. sound-same (store_after s b) j b j (λ i l. words j i other l);
      versions = λ j other. version-same (store_after s b) j b j (λ i l. words j i other l);
      greatest = λ j l sound. omega (arith, n.next, below-greatest b j l sound);
      newest = λ j e. elsewhere b j v n e;
    }

-- ---- distinct versions

module _ (s : State) (b : List ℕ) (v : ℕ) (is : SaveIs s b v) where
  -- every other sound block has a smaller version
  pub older : (j : ℕ) → j < count b → j ≢ place_of b → is_sound (store_after s b) j ≡ true → version (store_after s b) j < v
  older j l other sound =
      omega (arith, is.versions j other, is.greatest j l (sym (is.stands j other) ∙ sound))

  -- so none has that of the written block
  own : (j k : ℕ) → j < count b → j ≢ place_of b → k ≡ place_of b → is_sound (store_after s b) j ≡ true
      → version (store_after s b) j ≡ version (store_after s b) k → ⊥
  own j k l other same sound e =
      let named : version (store_after s b) k ≡ v = rw same is.named in
      omega (arith, older j l other sound)

  distinct-taken : Distinct b → Distinct (store_after s b)
  unfolding Distinct
  distinct-taken d j k lj lk sj sk e =
      let mj : j < count b = rw (same_count s b) at lj in
      let mk : k < count b = rw (same_count s b) at lk in
      ⊎_elim
      (λ p. ⊎_elim (λ q. p ∙ sym q) (λ q. absurd (own k j mk q p sk (sym e))) (same-or-other k (place_of b)))
      (λ p.
      ⊎_elim
      (λ q. absurd (own j k mj p q sj e))
      (λ q.
      d j k mj mk (sym (is.stands j p) ∙ sj) (sym (is.stands k q) ∙ sk) (sym (is.versions j p) ∙ e ∙ is.versions k q))
      (same-or-other k (place_of b)))
      (same-or-other j (place_of b))

distinct : (s : State) (b : List ℕ) → Distinct b → Distinct (store_after s b)
distinct s b d = told (may_save b) refl
  where
    told : (t : Bool) → may_save b ≡ t → Distinct (store_after s b)
    told true e = distinct-taken s b (suc (greatest b)) (save-is s b (suc (greatest b)) (next_of b (suc (greatest b)) e refl)) d
    told false e = rw (after-refused s b e) d

newest-block : (b : List ℕ) (k v : ℕ) → Distinct b → Next b v → found b Newest ≡ Some k → k ≢ place_of b
unfolding Distinct fits
newest-block b k v d n e same =
    let best = finds.at b Newest k e in
    let a = elsewhere b k v n e in
    a.other (d a.block k a.within best.within a.sound best.sought a.named ∙ same)

pub saves : Saves
saves = record {
  taken = λ s b v e. save-is s b v (taken_next b v e);
  refused = λ s b n e. ((refused-not b n e).1, after-refused s b (refused-not b n e).0);
  long = same_length;
  distinct = distinct;
  newest-block = λ s b k v d e f. newest-block b k v d (taken_next b v e) f;
}
