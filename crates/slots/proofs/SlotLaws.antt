-- What a search finds, what a service leaves, and by which of them a slot goes.
use Prim.Native.Nat.{ℕ, zero, suc, ◌+◌, ◌%◌, ◌≤◌, ◌<◌}
use native.Mathlib.Omega.{arith}
use mathlib.Core.Bool.{Bool, true, false}
use mathlib.Core.Logic.{◌≢◌, ◌⊎◌, inl, inr}
use mathlib.Core.Path.{◌≡◌, refl, sym}
use lib.Dec.{eqb}
use borrow.Author.Tests.{ne_eqb, eqb-false}
use Rattle.std.specs.Prelude.{Option, Some, None}
use Rattle.words.specs.Choice.{pick}
use Rattle.words.proofs.ChoiceLaws.{not-both, pick-cases, same-pick}
use Rattle.slots.specs.declared.Slots.{Slots}
use Rattle.slots.specs.declared.Service.{Service}
use Rattle.slots.specs.Slots.{to_channel, Asks, slot_level, begins, served, found, serves, next_in, highest, chosen}

-- ---- a search

-- what stands at the place i is found there, or something before it
pub record FoundBy (n c i : ℕ) (f : ℕ → Bool) : Type 0 where
  pub place : ℕ
  pub sooner : place ≤ i
  pub there : found n c f ≡ Some ((c + place) % 16)

found_here : (n c : ℕ) (f : ℕ → Bool) → f (c % 16) ≡ true → FoundBy (suc n) c 0 f
unfolding found
found_here n c f e = let here : c + 0 ≡ c = omega arith in record { place = 0; sooner = omega arith; there = rw (e, here) }

found-further : (n c i : ℕ) (f : ℕ → Bool) → f (c % 16) ≡ false → FoundBy n (suc c) i f → FoundBy (suc n) c (suc i) f
unfolding found
found-further n c i f e r =
    let step : c + suc r.place ≡ suc c + r.place = omega arith in
    record { place = suc r.place; sooner = omega (arith, r.sooner); there = rw (e, step) r.there }

found-sooner : (n c i j : ℕ) (f : ℕ → Bool) → i ≤ j → FoundBy n c i f → FoundBy n c j f
found-sooner n c i j f h r = record { place = r.place; sooner = omega (arith, r.sooner); there = r.there }

-- the first place holds, or the search goes on from the next
found-case : (n c i : ℕ) (f : ℕ → Bool) (b : Bool) → f (c % 16) ≡ b → i < suc n → f ((c + i) % 16) ≡ true
    → ((k : ℕ) → k < n → f ((suc c + k) % 16) ≡ true → FoundBy n (suc c) k f) → FoundBy (suc n) c i f
found-case n c i f true e h t rest = found-sooner (suc n) c 0 i f (omega arith) (found_here n c f e)
found-case n c zero f false e h t rest = let here : c + 0 ≡ c = omega arith in absurd (not-both (rw here at t) e)
found-case n c (suc i) f false e h t rest =
    let step : c + suc i ≡ suc c + i = omega arith in
    found-further n c i f e (rest i (omega arith) (rw step at t))

pub found-by : (n c i : ℕ) (f : ℕ → Bool) → i < n → f ((c + i) % 16) ≡ true → FoundBy n c i f
found-by zero c i f h t = absurd (omega arith)
found-by (suc n) c i f h t = found-case n c i f (f (c % 16)) refl h t (λ k. found-by n (suc c) k f)

-- what is found is one of sixteen, and holds
pub found-holds : (n c d : ℕ) (f : ℕ → Bool) → found n c f ≡ Some d → (d < 16) × (f d ≡ true)
unfolding found
found-holds zero c d f e = absurd (let z : ◌≡◌ {A = ℕ} 0 1 = cc in omega arith)
found-holds (suc n) c d f e = by (f (c % 16)) refl e (found-holds n (suc c) d f)
  where
    by : (b : Bool) → f (c % 16) ≡ b → pick b (Some (c % 16)) (found n (suc c) f) ≡ Some d → (found n (suc c) f ≡ Some d → (d < 16) × (f d ≡ true))
        → (d < 16) × (f d ≡ true)
    by true t e rest = let h : c % 16 ≡ d = cc in (omega arith, rw (← h) t)
    by false t e rest = rest e

-- a search looks at sixteen numbers alone
pub found-same : (n c : ℕ) (f g : ℕ → Bool) → ((d : ℕ) → d < 16 → f d ≡ g d) → found n c f ≡ found n c g
unfolding found
found-same zero c f g h = refl
found-same (suc n) c f g h = rw (h (c % 16) (omega arith), found-same n (suc c) f g h)

-- ---- a level, and a service of it

-- what holds of each of the three levels
pub each_level : (P : ℕ → Type 0) → P 1 → P 2 → P 3 → (level : ℕ) → 1 ≤ level → level ≤ 3 → P level
each_level P p q r zero a b = absurd (omega arith)
each_level P p q r (suc zero) a b = p
each_level P p q r (suc (suc zero)) a b = q
each_level P p q r (suc (suc (suc zero))) a b = r
each_level P p q r (suc (suc (suc (suc n)))) a b = absurd (omega arith)

pub slot-level-bounds : (k : ℕ) → (1 ≤ slot_level k) × (slot_level k ≤ 3)
unfolding slot_level
slot-level-bounds k =
    pick-cases (λ l. (1 ≤ l) × (l ≤ 3)) (eqb k 4) (λ a. omega arith)
    (λ a. pick-cases (λ l. (1 ≤ l) × (l ≤ 3)) (eqb k 2) (λ b. omega arith)
    (λ b. pick-cases (λ l. (1 ≤ l) × (l ≤ 3)) (eqb k 6) (λ d. omega arith) (λ d. omega arith)))

-- after a service the search of its level begins above the channel
pub begins-same : (s : Slots) (level d : ℕ) → 1 ≤ level → level ≤ 3 → begins (served s level d) level ≡ (d + 1) % 16
unfolding begins served
begins-same s level d = each_level (λ l. begins (served s l d) l ≡ (d + 1) % 16) refl refl refl level

-- and of another level where it did
pub begins-other : (s : Slots) (k level d : ℕ) → 1 ≤ k → k ≤ 3 → 1 ≤ level → level ≤ 3 → k ≢ level → begins (served s k d) level ≡ begins s level
unfolding begins served
begins-other s k level d a b e f =
    each_level (λ j. j ≢ level → begins (served s j d) level ≡ begins s level)
    (λ n. same-pick (eqb level 3) (λ t. refl) (λ t. same-pick (eqb level 2) (λ u. refl)
    (λ u. let v : level ≢ 3 = eqb-false level 3 t in let w : level ≢ 2 = eqb-false level 2 u in absurd (omega arith))))
    (λ n. rw (ne_eqb level 2 (λ u. n (sym u)))) (λ n. rw (ne_eqb level 3 (λ u. n (sym u)))) k a b

pub slot-served : (s : Slots) (level d : ℕ) → (served s level d).slot ≡ s.slot
unfolding served
slot-served s level d =
    pick-cases (λ (t : Slots). t.slot ≡ s.slot) (eqb level 3) (λ a. refl)
    (λ a. pick-cases (λ (t : Slots). t.slot ≡ s.slot) (eqb level 2) (λ b. refl) (λ b. refl))

-- ---- by which a slot goes

-- at level k: its own, or its own has none and k is the highest that has one
abbrev pub GoesBy : Slots → Asks → ℕ → Type 0
GoesBy s asks k =
    (k ≡ slot_level s.slot) ⊎ ((next_in s asks (slot_level s.slot) ≡ None) × ((h : ℕ) → k < h → h ≤ 3 → next_in s asks h ≡ None))

-- to show P of a slot, show it of what a level finds by which the slot may go, and of nobody where no level finds anything
pub chosen-cases : (P : Option Service → Type 0) (s : Slots) (asks : Asks)
    → ((k d : ℕ) → 1 ≤ k → k ≤ 3 → GoesBy s asks k → next_in s asks k ≡ Some d → P (to_channel d (served s k d)))
    → (((h : ℕ) → 1 ≤ h → h ≤ 3 → next_in s asks h ≡ None) → P None) → P (chosen s asks)
unfolding chosen highest
chosen-cases P s asks f g =
    let own : (1 ≤ slot_level s.slot) × (slot_level s.slot ≤ 3) = slot-level-bounds s.slot in
    at_level (slot_level s.slot) _ (λ d. f _ d own.0 own.1 (inl refl))
    (λ o. at_level 3 _ (λ d. f 3 d (omega arith) (omega arith) (inr (o, λ h a b. absurd (omega arith))))
    (λ e₃. at_level 2 _ (λ d. f 2 d (omega arith) (omega arith) (inr (o, above 2 (λ l. absurd (omega arith)) (λ l. absurd (omega arith)) e₃)))
    (λ e₂. at_level 1 _ (λ d. f 1 d (omega arith) (omega arith) (inr (o, above 1 (λ l. absurd (omega arith)) (λ l. e₂) e₃)))
    (λ e₁. g (each_level (λ h. next_in s asks h ≡ None) e₁ e₂ e₃)))))
  where
    above : (k : ℕ) → (k < 1 → next_in s asks 1 ≡ None) → (k < 2 → next_in s asks 2 ≡ None) → next_in s asks 3 ≡ None
        → (h : ℕ) → k < h → h ≤ 3 → next_in s asks h ≡ None
    above k p q r h a b = each_level (λ h. k < h → next_in s asks h ≡ None) p q (λ l. r) h (omega arith) b a

    at_level : (k : ℕ) (rest : Option Service) → ((d : ℕ) → next_in s asks k ≡ Some d → P (to_channel d (served s k d))) → (next_in s asks k ≡ None → P rest)
        → P (serves s k (next_in s asks k) rest)
    at_level k rest f g = by (next_in s asks k) refl
      where
        by : (v : Option ℕ) → next_in s asks k ≡ v → P (serves s k v rest)
        by (Some d) e = f d e
        by None e = g e
