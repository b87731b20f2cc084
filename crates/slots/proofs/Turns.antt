-- What #107 says of one slot, and of ticks with nothing ready.
use Prim.Native.Nat.{ℕ, suc, ◌+◌, ◌-◌, ◌%◌, ◌≤◌, ◌<◌}
use native.Mathlib.Omega.{arith}
use mathlib.Core.Bool.{Bool, true, false}
use mathlib.Core.List.{List, [], ◌∷◌}
use mathlib.Core.Logic.{inl, inr, ⊎_elim}
use mathlib.Core.Path.{◌≡◌, refl, sym, ap, subst, ◌∙◌}
use lib.Dec.{ltb}
use lib.ListN.{length}
use borrow.Author.Tests.{ne_eqb, ltb-true, ltb-false}
use Rattle.std.specs.Prelude.{Some, None}
use Rattle.words.proofs.ChoiceLaws.{not-both, fails}
use Rattle.slots.specs.declared.Slots.{Slots}
use Rattle.slots.specs.declared.Service.{Service}
use Rattle.slots.specs.Slots.{to_channel, Asks, reset_slots, ticked, idled, slot_level, begins, served, next_in, highest, chosen}
use Rattle.slots.specs.Claims.{Levels, goes_to, leaves, service_of, next, others_before, NoneReady, Turn, after}
use Rattle.slots.proofs.SlotLaws.{FoundBy, found-by, found-holds, found-same}
use Rattle.slots.proofs.SlotLaws.{slot-level-bounds, begins-same, begins-other, slot-served, GoesBy, chosen-cases}

-- ---- the places of a round of 16

-- c stands so many places after b
pub place_of : (b c : ℕ) → c < 16 → (b + (c + (16 - b % 16)) % 16) % 16 ≡ c
place_of b c h = omega arith

-- the place j after b stands there
pub place-back : (b j : ℕ) → j < 16 → ((b + j) % 16 + (16 - b % 16)) % 16 ≡ j
place-back b j h =
    let q : b % 16 < 16 = omega arith in
    let e : (b + j) % 16 ≡ (b % 16 + j) % 16 = omega arith in
    rw e (by (b % 16) q (ltb (b % 16 + j) 16) refl)
  where
    by : (b : ℕ) → b < 16 → (t : Bool) → ltb (b + j) 16 ≡ t → ((b + j) % 16 + (16 - b)) % 16 ≡ j
    by b q true t = let l : b + j < 16 = ltb-true (b + j) 16 t in omega arith
    by b q false t = let l : 16 ≤ b + j = ltb-false (b + j) 16 t in omega arith

-- where c is ready at a level, its search finds c or one that comes before it
pub ready-found : (s : Slots) (asks : Asks) (level c : ℕ) → c < 16 → asks level c ≡ true
    → FoundBy 16 (begins s level) (others_before s level c) (asks level)
unfolding others_before
ready-found s asks level c h a =
    let b : ℕ = begins s level in
    found-by 16 b (others_before s level c) (asks level) (omega arith) (rw (place_of b c h) a)

-- so it does not find nothing
pub none_found : (s : Slots) (asks : Asks) (level : ℕ) → next_in s asks level ≡ None → NoneReady asks level
none_found s asks level e c h =
    fails (asks level c) (λ a. let z : ◌≡◌ {A = ℕ} 0 1 = cc (ready-found s asks level c h a).there in omega arith)

-- ---- whom a slot goes to

nearest : (s : Slots) (asks : Asks) (level c d : ℕ) → next_in s asks level ≡ Some c → d < 16 → asks level d ≡ true
    → others_before s level c ≤ others_before s level d
unfolding others_before
nearest s asks level c d e h a =
    let r : FoundBy 16 (begins s level) (others_before s level d) (asks level) = ready-found s asks level d h a in
    let same : c ≡ (begins s level + r.place) % 16 = cc r.there in
    let f : (c + (16 - begins s level % 16)) % 16 ≡ r.place = rw same (place-back (begins s level) r.place (omega (arith, r.sooner))) in
    rw f r.sooner

pub turns : (s t : Slots) (asks : Asks) (c : ℕ) → chosen s asks ≡ to_channel c t → Turn s asks c t
turns s t asks c =
    chosen-cases (λ v. v ≡ to_channel c t → Turn s asks c t) s asks found (λ _ e. absurd (let z : ◌≡◌ {A = ℕ} 0 1 = cc in omega arith))
  where
    turn : (k d : ℕ) → 1 ≤ k → k ≤ 3 → GoesBy s asks k → next_in s asks k ≡ Some d → Turn s asks d (served s k d)
    turn k d a b w n =
        record {
          level = k;
          levels = record { channel = (found-holds 16 (begins s k) d (asks k) n).0; least = a; most = b };
          ready = (found-holds 16 (begins s k) d (asks k) n).1;
          whose = ⊎_elim inl (λ x. inr (none_found s asks _ x.0, λ h l m. none_found s asks h (x.1 h l m))) w;
          nearest = λ i. nearest s asks k d i n;
          last = begins-same s k d a b;
          others = λ h l m o. begins-other s k h d a b l m (λ e. o (sym e));
          slot = slot-served s k d;
        }

    found : (k d : ℕ) → 1 ≤ k → k ≤ 3 → GoesBy s asks k → next_in s asks k ≡ Some d → to_channel d (served s k d) ≡ to_channel c t → Turn s asks c t
    found k d a b w n e =
        let gone : ◌≡◌ {A = Service} record { channel = d; slots = served s k d } record { channel = c; slots = t } = cc in
        let same : d ≡ c = ap (λ (v : Service). v.channel) gone in
        let left : served s k d ≡ t = ap (λ (v : Service). v.slots) gone in
        subst (λ x. Turn s asks c x) left (subst (λ x. Turn s asks x (served s k d)) same (turn k d a b w n))

pub idles : (s : Slots) (asks : Asks) → chosen s asks ≡ None → (level c : ℕ) → Levels level c → asks level c ≡ false
idles s asks e level c l =
    chosen-cases (λ v. v ≡ None → asks level c ≡ false) s asks (λ k d a b w n e. absurd (let z : ◌≡◌ {A = ℕ} 0 1 = cc in omega arith))
    (λ none _. none_found s asks level (none level l.least l.most) c l.channel) e

pub nobody : (s : Slots) (asks : Asks) → ((level c : ℕ) → Levels level c → asks level c ≡ false) → chosen s asks ≡ None
nobody s asks h = chosen-cases (λ v. v ≡ None) s asks found (λ _. refl)
  where
    found : (k d : ℕ) → 1 ≤ k → k ≤ 3 → GoesBy s asks k → next_in s asks k ≡ Some d → to_channel d (served s k d) ≡ None
    found k d a b w n =
        let here : (d < 16) × (asks k d ≡ true) = found-holds 16 (begins s k) d (asks k) n in
        absurd (not-both here.1 (h k d record { channel = here.0; least = a; most = b }))

pub unready : (s : Slots) (asks : Asks) (c : ℕ) → ((level : ℕ) → asks level c ≡ false) → goes_to c (service_of s asks) ≡ false
unfolding service_of goes_to
unready s asks c h =
    chosen-cases (λ v. goes_to c v ≡ false) (ticked s) asks
    (λ k d a b w n. ne_eqb c d (λ same. not-both (found-holds 16 (begins (ticked s) k) d (asks k) n).1 (rw same at (h k)))) (λ _. refl)

pub sixteen : (s t : Slots) (asks : Asks) (c : ℕ) → chosen s asks ≡ to_channel c t → c < 16
sixteen s t asks c e = (turns s t asks c e).levels.channel

pub words : (s : Slots) (a b : Asks) → ((level c : ℕ) → Levels level c → a level c ≡ b level c) → chosen s a ≡ chosen s b
unfolding chosen highest
words s a b h =
    let same : (k : ℕ) → 1 ≤ k → k ≤ 3 → next_in s a k ≡ next_in s b k =
    λ k l m. found-same 16 (begins s k) (a k) (b k) (λ d i. h k d record { channel = i; least = l; most = m }) in
    let own : (1 ≤ slot_level s.slot) × (slot_level s.slot ≤ 3) = slot-level-bounds s.slot in
    rw (
      same (slot_level s.slot) own.0 own.1,
      same 3 (omega arith) (omega arith),
      same 2 (omega arith) (omega arith),
      same 1 (omega arith) (omega arith),
    )

-- ---- ticks

pub quiet : (s : Slots) (asks : Asks) → ((level c : ℕ) → Levels level c → asks level c ≡ false) → next s asks ≡ idled 1 s
unfolding next leaves service_of ticked idled
quiet s asks h = rw (nobody (ticked s) asks h)

pub quiet-more : (s : Slots) (m n : ℕ) → idled (suc n) (idled (suc m) s) ≡ idled (suc m + suc n) s
unfolding idled
quiet-more s m n =
    let e : ((s.slot + suc m) % 7 + suc n) % 7 ≡ (s.slot + (suc m + suc n)) % 7 = omega arith in
    rw e

slot_next : (s : Slots) (asks : Asks) → (next s asks).slot ≡ (s.slot + 1) % 7
unfolding next leaves service_of ticked
slot_next s asks =
    chosen-cases (λ v. (leaves (ticked s) v).slot ≡ (s.slot + 1) % 7) (ticked s) asks (λ k d a b w n. slot-served (ticked s) k d) (λ _. refl)

slot-after : (slots : List Asks) (s : Slots) → s.slot < 7 → (after s slots).slot ≡ (s.slot + length slots) % 7
unfolding after
slot-after [] s h = omega arith
slot-after (a ∷ rest) s h =
    let n : (next s a).slot ≡ (s.slot + 1) % 7 = slot_next s a in
    let r : (after (next s a) rest).slot ≡ ((next s a).slot + length rest) % 7 = slot-after rest (next s a) (omega arith) in
    r ∙ omega arith

pub round : (slots : List Asks) → (after reset_slots slots).slot ≡ length slots % 7
round slots = slot-after slots reset_slots (omega arith) ∙ omega arith
