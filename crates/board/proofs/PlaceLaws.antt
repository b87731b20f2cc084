-- Which block a save writes, and where the newest version is kept meanwhile.
use Rattle.std.proofs.Common.{Option, Some, None, Result, Ok, Err}
use Prim.Native.Nat.{ℕ, suc, ◌-◌, ◌≤◌, ◌<◌}
use native.Mathlib.Omega.{arith}
use mathlib.Core.Bool.{Bool, true, false}
use mathlib.Core.List.{List}
use mathlib.Core.Logic.{◌≢◌, ◌⊎◌, inl, inr, ⊎_elim}
use mathlib.Core.Path.{◌≡◌, refl, sym, ap}
use lib.Dec.{ltb, eqb}
use lib.ListN.{length}
use borrow.Author.Tests.{ltb-true, eqb-true, eqb-false, not-true, not-false}
use Rattle.words.proofs.ChoiceLaws.{pick-cases, not-both, and_left, and_right}
use Rattle.unit.specs.declared.State.{State}
use Rattle.blocks.specs.declared.Search.TheVariants.{Newest, Oldest, Unsound}
use Rattle.blocks.specs.Blocks.{is_store, count, laid, version, is_sound}
use Rattle.blocks.specs.Finding.{fits, rank, found}
use Rattle.blocks.proofs.WordLaws.{laid-length, count-length, count-store}
use Rattle.blocks.proofs.FindingLaws.{finds}
use Rattle.keeping.specs.declared.Refusal.{Refusal}
use Rattle.keeping.specs.declared.Refusal.TheVariants.{NoVersion}
use Rattle.keeping.specs.Layout.{block_word}
use Rattle.keeping.specs.Keeping.{refusal_number, version_at, greatest, or_oldest, block_at, place_of, may_save, save_of, store_after}
use Rattle.board.specs.Saves.{Elsewhere}

pub same-or-other : (j k : ℕ) → (j ≡ k) ⊎ (j ≢ k)
same-or-other j k = told (eqb j k) refl
  where
    told : (t : Bool) → eqb j k ≡ t → (j ≡ k) ⊎ (j ≢ k)
    told true e = inl (eqb-true j k e)
    told false e = inr (eqb-false j k e)

-- ---- a save that is taken

-- what it says of the store
pub record Next (b : List ℕ) (v : ℕ) : Type 0 where
  pub may : may_save b ≡ true
  pub store : is_store b ≡ true
  pub small : greatest b < 0xffffffff
  pub next : v ≡ suc (greatest b)

pub next_of : (b : List ℕ) (v : ℕ) → may_save b ≡ true → v ≡ suc (greatest b) → Next b v
unfolding may_save
next_of b v e n = record {
  may = e;
  store = and_left (is_store b) (ltb (greatest b) 0xffffffff) e;
  small = ltb-true (greatest b) 0xffffffff (and_right (is_store b) (ltb (greatest b) 0xffffffff) e);
  next = n;
}

pub taken_next : (b : List ℕ) (v : ℕ) → save_of b ≡ Ok v → Next b v
unfolding save_of
taken_next b v =
    pick-cases (λ (r : Result ℕ Refusal). r ≡ Ok v → Next b v) (may_save b)
    (λ may e. next_of b v may (cc))
    (λ may e. let z : ◌≡◌ {A = ℕ} 0 1 = cc in absurd (omega arith))

pub refused-not : (b : List ℕ) (r : Refusal) → save_of b ≡ Err r → (may_save b ≡ false) × (refusal_number r ≡ 12)
unfolding save_of
refused-not b r =
    pick-cases (λ (x : Result ℕ Refusal). x ≡ Err r → (may_save b ≡ false) × (refusal_number r ≡ 12)) (may_save b)
    (λ may e. let z : ◌≡◌ {A = ℕ} 0 1 = cc in absurd (omega arith))
    (λ may e. let no : r ≡ NoVersion = cc in (may, ap refusal_number no))

pub after-taken : (s : State) (b : List ℕ) (v : ℕ) → Next b v → store_after s b ≡ laid (block_word s v) b (place_of b) 256
unfolding store_after
after-taken s b v h = rw (h.may, h.next)

pub after-refused : (s : State) (b : List ℕ) → may_save b ≡ false → store_after s b ≡ b
unfolding store_after
after-refused s b e = rw e

pub same_length : (s : State) (b : List ℕ) → length (store_after s b) ≡ length b
unfolding store_after
same_length s b =
    pick-cases (λ (c : List ℕ). length c ≡ length b) (may_save b)
    (λ e. laid-length (block_word s (suc (greatest b))) b (place_of b) 256)
    (λ e. refl)

pub same_count : (s : State) (b : List ℕ) → count (store_after s b) ≡ count b
same_count s b = count-length b (store_after s b) (same_length s b)

-- ---- the greatest version

pub below-greatest : (b : List ℕ) (j : ℕ) → j < count b → is_sound b j ≡ true → version b j ≤ greatest b
unfolding greatest version_at fits rank
below-greatest b j l sound = told (found b Newest) refl
  where
    told : (f : Option ℕ) → found b Newest ≡ f → version b j ≤ version_at b f
    told (Some k) e = (finds.at b Newest k e).highest j l sound
    told None e = absurd (not-both sound (finds.missing b Newest e j l))

-- ---- the block that is written

all_sound : (b : List ℕ) → found b Unsound ≡ None → (j : ℕ) → j < count b → is_sound b j ≡ true
unfolding fits
all_sound b e j l = not-false (is_sound b j) (finds.missing b Unsound e j l)

-- it is unsound, or all are sound and its version is the smallest
pub record Worst (b : List ℕ) (k : ℕ) : Type 0 where
  pub within : k < count b
  pub sound : (j : ℕ) → is_sound b k ≡ true → j < count b → is_sound b j ≡ true
  pub smallest : (j : ℕ) → is_sound b k ≡ true → j < count b → 0xffffffff - version b j ≤ 0xffffffff - version b k

worst-found : (b : List ℕ) → is_store b ≡ true → (f g : Option ℕ) → found b Unsound ≡ f → found b Oldest ≡ g
    → Worst b (block_at (or_oldest b f))
unfolding or_oldest block_at fits rank
worst-found b store (Some k) g e h =
    let best = finds.at b Unsound k e in
    let not_sound : is_sound b k ≡ true → ⊥ = λ sound. not-both sound (not-true (is_sound b k) best.sought) in
    record {
      within = best.within;
      sound = λ j sound l. absurd (not_sound sound);
      smallest = λ j sound l. absurd (not_sound sound);
    }
worst-found b store None (Some k) e h =
    let best = finds.at b Oldest k h in
    rw h record {
      within = best.within;
      sound = λ j sound l. all_sound b e j l;
      smallest = λ j sound l. omega (arith, best.highest j l (all_sound b e j l));
    }
worst-found b store None None e h =
    let l : 0 < count b = omega (arith, count-store b store) in
    absurd (not-both (all_sound b e 0 l) (finds.missing b Oldest h 0 l))

pub worst : (b : List ℕ) → is_store b ≡ true → Worst b (place_of b)
unfolding place_of
worst b store = worst-found b store (found b Unsound) (found b Oldest) refl refl

-- ---- the newest version before the save

-- where its block k is written, any other block has it too
beside : (b : List ℕ) (k v j : ℕ) → Next b v → found b Newest ≡ Some k → k ≡ place_of b → j < count b → j ≢ k
    → Elsewhere b (version b k)
unfolding fits rank
beside b k v j n e same l other =
    let best = finds.at b Newest k e in
    let w : Worst b k = rw same (worst b n.store) in
    let sound = w.sound j best.sought l in
    let top = below-greatest b k best.within best.sought in
    record {
      block = j;
      within = l;
      other = rw same at other;
      sound = sound;
      named = omega (arith, w.smallest j best.sought l, best.highest j l sound);
    }

pub elsewhere : (b : List ℕ) (k v : ℕ) → Next b v → found b Newest ≡ Some k → Elsewhere b (version b k)
unfolding fits
elsewhere b k v n e =
    let best = finds.at b Newest k e in
    let two = count-store b n.store in
    ⊎_elim
    (λ same.
    ⊎_elim
    (λ first. beside b k v 1 n e same (omega arith) (λ d. omega arith))
    (λ later. beside b k v 0 n e same (omega arith) (λ d. later (sym d)))
    (same-or-other k 0))
    (λ other. record { block = k; within = best.within; other = other; sound = best.sought; named = refl })
    (same-or-other k (place_of b))
