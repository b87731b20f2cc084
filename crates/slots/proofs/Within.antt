-- A channel that stays ready at one level is served within 112 slots. With what `Turns` has of one slot: `one-service`.
use Prim.Native.Nat.{ℕ, suc, ◌+◌, ◌-◌, ◌*◌, ◌%◌, ◌≤◌, ◌<◌}
use native.Mathlib.Omega.{arith}
use mathlib.Core.Bool.{Bool, true, false}
use mathlib.Core.List.{List, [], ◌∷◌}
use mathlib.Core.Logic.{◌≢◌, ◌⊎◌, inl, inr, ⊎_elim}
use mathlib.Core.Path.{◌≡◌, refl, sym, ap, subst, ◌∙◌}
use lib.Dec.{eqb}
use lib.ListN.{length}
use borrow.Author.Tests.{eq-eqb, eqb-true, eqb-false}
use Rattle.std.specs.Prelude.{Option, Some, None}
use Rattle.words.proofs.ChoiceLaws.{not-both, pick-cases}
use Rattle.slots.specs.declared.Slots.{Slots}
use Rattle.slots.specs.declared.Service.{Service}
use Rattle.slots.specs.Slots.{to_channel, Asks, ticked, slot_level, begins, served, next_in, chosen}
use Rattle.slots.specs.Claims.{Levels, goes_to, leaves, service_of, next, others_before, Waits, turn_of, home, before_home, patience, OneService}
use Rattle.slots.proofs.SlotLaws.{FoundBy, each_level, begins-same, begins-other, slot-served, GoesBy, chosen-cases}
use Rattle.slots.proofs.Turns as turns
use Rattle.slots.proofs.Turns.{place_of, place-back, ready-found, none_found}

-- ---- the home slot of a level

-- it is the level's own
level-home : (level : ℕ) → 1 ≤ level → level ≤ 3 → slot_level (home level) ≡ level
unfolding slot_level home
level-home = each_level (λ l. slot_level (home l) ≡ l) refl refl refl

home-bounds : (level : ℕ) → (1 ≤ home level) × (home level ≤ 4)
unfolding home
home-bounds level =
    pick-cases (λ h. (1 ≤ h) × (h ≤ 4)) (eqb level 3) (λ a. omega arith)
    (λ a. pick-cases (λ h. (1 ≤ h) × (h ≤ 4)) (eqb level 2) (λ b. omega arith) (λ b. omega arith))

-- ---- rounds of 7 and of 16

home-comes : (h x : ℕ) → 1 ≤ h → h ≤ 4 → (h + (6 - x % 7)) % 7 ≡ 0 → (x + 1) % 7 ≡ h
home-comes h x a b e = omega arith

home-falls : (h x y : ℕ) → 1 ≤ h → h ≤ 4 → (h + (6 - x % 7)) % 7 ≢ 0 → y ≡ (x + 1) % 7
    → suc ((h + (6 - y % 7)) % 7) ≡ (h + (6 - x % 7)) % 7
home-falls h x y a b n e =
    let q : x % 7 < 7 = omega arith in
    let r : y ≡ (x % 7 + 1) % 7 = omega arith in
    by (x % 7) y q r n
  where
    by : (x y : ℕ) → x < 7 → y ≡ (x + 1) % 7 → (h + (6 - x)) % 7 ≢ 0 → suc ((h + (6 - y % 7)) % 7) ≡ (h + (6 - x)) % 7
    by x y q r n = omega arith

reduced : (x m : ℕ) → (x % 16 + m) % 16 ≡ (x + m) % 16
reduced x m = omega arith

-- once the place j before it is served, the search begins after that place
round-falls : (b c i j d : ℕ) → i < 16 → j < i → (b + i) % 16 ≡ c → d ≡ (b + j) % 16 → suc (j + (c + (16 - (d + 1) % 16 % 16)) % 16) ≡ i
round-falls b c i j d h l e f =
    let k : ℕ = (d + 1) % 16 in
    let after : b + j + 1 + (i - suc j) ≡ b + i = omega arith in
    let there : (k + (i - suc j)) % 16 ≡ c = rw (f, reduced (b + j) 1, reduced (b + j + 1) (i - suc j), after) e in
    let r : (c + (16 - k % 16)) % 16 ≡ i - suc j = rw (← there) (place-back k (i - suc j) (omega arith)) in
    omega (arith, r)

before-home-le : (s : Slots) (level : ℕ) → before_home s level ≤ 6
unfolding before_home
before-home-le s level = omega arith

-- one fewer before it is worth the slots to its home slot and one more
spent : (x y i j k : ℕ) → x ≤ 6 → suc (k + j) ≡ i → suc (x + 7 * j) ≤ y + 7 * i
spent x y i j k a e = omega arith

at-or-before : (j i : ℕ) → j ≤ i → (j ≡ i) ⊎ (j < i)
at-or-before j i h = by (eqb j i) refl
  where
    by : (b : Bool) → eqb j i ≡ b → (j ≡ i) ⊎ (j < i)
    by true t = inl (eqb-true j i t)
    by false t = let n : j ≢ i = eqb-false j i t in inr (omega arith)

-- ---- what a slot in which c is ready comes to

-- the slots s before a tick, and t in it
module _ (s : Slots) (asks : Asks) (level c : ℕ) (l : Levels level c) (a : asks level c ≡ true) where
  abbrev t : Slots
  t = ticked s

  -- the slot goes to c, or leaves it less
  abbrev Good : Option Service → Type 0
  Good v = (goes_to c v ≡ true) ⊎ (suc (patience (leaves t v) level c) ≤ patience s level c)

  -- a service at its level, of c or of one that comes before it
  own-level : (d : ℕ) → next_in t asks level ≡ Some d → Good (to_channel d (served t level d))
  unfolding goes_to leaves patience others_before begins ticked
  own-level d e =
      let b : ℕ = begins t level in
      let i : ℕ = others_before t level c in
      let r : FoundBy 16 b i (asks level) = ready-found t asks level c l.channel a in
      let same : d ≡ (b + r.place) % 16 = cc r.there in
      let there : (b + i) % 16 ≡ c = place_of b c l.channel in
      ⊎_elim
      (λ f. inl (eq-eqb c d (sym (same ∙ ap (λ j. (b + j) % 16) f ∙ there))))
      (λ (f : r.place < i).
      let v : Slots = served t level d in
      let n : suc (r.place + others_before v level c) ≡ i =
      rw (begins-same t level d l.least l.most) (round-falls b c i r.place d (omega arith) f there same) in
      inr (spent (before_home v level) (before_home s level) i (others_before v level c) r.place (before-home-le v level) n))
      (at-or-before r.place i r.sooner)

  -- a service at another level, in a slot that is not its own: its home slot is one nearer
  other-level : (k d : ℕ) → 1 ≤ k → k ≤ 3 → k ≢ level → slot_level t.slot ≢ level → Good (to_channel d (served t k d))
  unfolding leaves patience before_home others_before begins ticked
  other-level k d p q n o =
      let h : (1 ≤ home level) × (home level ≤ 4) = home-bounds level in
      let z : before_home s level ≢ 0 =
      λ e. o (ap slot_level (home-comes (home level) s.slot h.0 h.1 e) ∙ level-home level l.least l.most) in
      let f : suc (before_home t level) ≡ before_home s level = home-falls (home level) s.slot t.slot h.0 h.1 z refl in
      inr (rw (begins-other t k level d p q l.least l.most n, slot-served t k d) (omega arith))

  -- its level finds somebody
  found_at : (k : ℕ) → next_in t asks k ≡ None → k ≢ level
  found_at k e same = not-both a (none_found t asks level (rw same at e) c l.channel)

  -- so that a service at another level comes in a slot that is not its own
  not_own : (k : ℕ) → k ≢ level → GoesBy t asks k → slot_level t.slot ≢ level
  not_own k n w = ⊎_elim (λ own same. n (own ∙ same)) (λ x. found_at (slot_level t.slot) x.0) w

  slot-good : Good (chosen t asks)
  slot-good = chosen-cases Good t asks at_level (λ none. absurd (found_at level (none level l.least l.most) refl))
    where
      at_level : (k d : ℕ) → 1 ≤ k → k ≤ 3 → GoesBy t asks k → next_in t asks k ≡ Some d → Good (to_channel d (served t k d))
      at_level k d p q w e = by (eqb k level) refl
        where
          by : (b : Bool) → eqb k level ≡ b → Good (to_channel d (served t k d))
          by true f = subst (λ j. next_in t asks j ≡ Some d → Good (to_channel d (served t j d))) (sym (eqb-true k level f)) (own-level d) e
          by false f = let n : k ≢ level = eqb-false k level f in other-level k d p q n (not_own k n w)

-- ---- lists of slots

falls : (s : Slots) (asks : Asks) (level c : ℕ) → Levels level c → asks level c ≡ true
    → (goes_to c (service_of s asks) ≡ true) ⊎ (suc (patience (next s asks) level c) ≤ patience s level c)
unfolding service_of next
falls s asks level c l a = slot-good s asks level c l a

bounded : (s : Slots) (level c : ℕ) → patience s level c ≤ 111
unfolding patience before_home others_before
bounded s level c = omega arith

turn-first : (c level : ℕ) (s : Slots) (a : Asks) (rest : List Asks) → Levels level c → a level c ≡ true
    → (b : Bool) → goes_to c (service_of s a) ≡ b
    → (b ≡ false → suc (patience (next s a) level c) ≤ length rest → turn_of c (next s a) rest ≤ suc (patience (next s a) level c))
    → suc (patience s level c) ≤ suc (length rest) → turn_of c s (a ∷ rest) ≤ suc (patience s level c)
unfolding turn_of
turn-first c level s a rest l t true e more h = rw e (omega arith)
turn-first c level s a rest l t false e more h =
    ⊎_elim (λ z. absurd (not-both z e)) (λ z. rw e (omega (arith, more refl (omega arith)))) (falls s a level c l t)

-- in a list that is longer than its patience one slot goes to c, after no more others than it has patience for
turn_by : (c level : ℕ) (s : Slots) (slots : List Asks) → Levels level c → Waits c level s slots → suc (patience s level c) ≤ length slots
    → turn_of c s slots ≤ suc (patience s level c)
unfolding Waits
turn_by c level s [] l w h = absurd (omega arith)
turn_by c level s (a ∷ rest) l w h =
    turn-first c level s a rest l w.0 (goes_to c (service_of s a)) refl (λ e. turn_by c level (next s a) rest l (w.1 e)) h

within : (s : Slots) (slots : List Asks) (level c : ℕ) → Levels level c → Waits c level s slots → 112 ≤ length slots → turn_of c s slots ≤ 112
within s slots level c l w h = omega (arith, bounded s level c, turn_by c level s slots l w (omega (arith, bounded s level c)))

pub one-service : OneService
one-service =
    record {
      turns = turns.turns;
      idles = turns.idles;
      nobody = turns.nobody;
      unready = turns.unready;
      sixteen = turns.sixteen;
      words = turns.words;
      round = turns.round;
      quiet = turns.quiet;
      quiet-more = turns.quiet-more;
      within = within;
      bounded = bounded;
      falls = falls;
    }
