-- What the lower requests of an HSRR word leave of the questions put for a higher channel. Document 01, "Questions at the gate".
use Prim.Native.Nat.{ℕ, suc, ◌+◌, ◌-◌, ◌*◌, ◌/◌, ◌%◌, ◌≤◌, ◌<◌}
use native.Mathlib.Omega.{arith}
use mathlib.Core.Bool.{Bool, true, false, ◌&&◌}
use mathlib.Core.Path.{◌≡◌, refl, ap, ◌∙◌}
use mathlib.Core.Logic.{◌⊎◌, inl, inr, ⊎_elim}
use lib.Dec.{leb, ltb}
use lib.ListN.{get_or}
use borrow.Author.Tests.{le-leb, leb-true}
use Rattle.words.specs.declared.Timer.{Timer}
use Rattle.words.specs.Field.{field}
use Rattle.words.proofs.ChoiceLaws.{not-both, holds, fails, tests, and_left, and_right}
use Rattle.words.proofs.FieldLaws.{field_lt}
use Rattle.unit.specs.declared.State.{State}
use Rattle.unit.specs.TheUnit.{any, each, cfsr_of, hsrr_of, function, request, channel, word, last, stepping, reaches, is_bound}
use Rattle.unit.specs.Gate.{requested_one}
use Rattle.unit.specs.Takes.{Free, Stepper, MayInitialise, Member, MayStep, MayRepeat, Together}
use Rattle.unit.proofs.Reset.{Sized}
use Rattle.unit.proofs.Tests.{Found, and_both, or-none, or_right, any-yes, any_some}
use Rattle.unit.proofs.Requests.{Same, going, not_yet, comes}

-- ---- from one state to another of the same words

module _ (s t : State) (words : t.words ≡ s.words) where
  pub same_word : (j k : ℕ) → word t j k ≡ word s j k
  unfolding word
  same_word j k = ap (λ l. get_or l (8 * j + k) 0) words

  moved-initialise : (c : ℕ) → Free c t → Stepper c t → MayInitialise c s → MayInitialise c t
  moved-initialise c f q x =
      record { free = f; stepper = q; timed = rw (same_word c 0) x.timed; high = rw (same_word c 0, same_word c 1) x.high; low = rw (same_word c 0, same_word c 1) x.low }

  pub moved-member : (m : ℕ) (k : Timer) (j : ℕ) → Free j t → Stepper j t → channel t j ≡ channel s j → Member m k j s → Member m k j t
  moved-member m k j f q e x =
      record { free = f; stepper = q; initialised = rw e x.initialised; kind = rw e x.kind; pattern = λ i l. rw (same_word j 0, same_word j 1) (x.pattern i l) }

  pub moved-step : (c : ℕ) → ((j : ℕ) → c ≤ j → j ≤ field 4 (word s c 5) 0 → Member (field 4 (word s c 4) 8) (channel t c).kind j t) → MayStep c s → MayStep c t
  moved-step c g x =
      record {
        zero5 = rw (same_word c 5) x.zero5;
        least = rw (same_word c 5) x.least;
        most = rw (same_word c 5) x.most;
        above = rw (same_word c 5) x.above;
        near = rw (same_word c 5) x.near;
        zero4 = rw (same_word c 4) x.zero4;
        slow = rw (same_word c 4) x.slow;
        group = rw (same_word c 4, same_word c 5) g;
        fastest = rw (same_word c 5, same_word (suc c) 2, same_word (suc c) 3) x.fastest;
        slowest = rw (same_word (suc c) 2, same_word (suc c) 3) x.slowest;
        target = rw (same_word c 3, same_word c 5) x.target;
      }

-- ---- after the first n of the word's eight

module _ (i v n : ℕ) (s : State) (z : Sized s) (a : 7 ≤ i) (b : i ≤ 8) (few : n ≤ 8) where
  abbrev first : ℕ
  first = 8 * (8 - i)

  abbrev t : State
  t = each n (8 * (8 - i)) (requested_one v) s

  pub above_same : (j : ℕ) → first + n ≤ j → j < 16 → Same j s t
  above_same j l h = not_yet v first j s z (omega arith) h n few (λ k q e. omega arith)

  -- a motor that none of them asks to step is left at rest or under way
  not-asked : (p : ℕ) → p < 16 → (p / 8 ≡ 8 - i → p < first + n → field 2 v (2 * (p % 8)) ≡ 3 → ⊥) → stepping t p ≡ stepping s p
  not-asked p h f = by (ltb p first) refl (ltb p (first + n)) refl
    where
      by : (x : Bool) → ltb p first ≡ x → (y : Bool) → ltb p (first + n) ≡ y → stepping t p ≡ stepping s p
      by true x y d = going p s t (not_yet v first p s z (omega arith) h n few (λ k q w. omega (arith, tests))).own
      by false x false d = going p s t (above_same p (omega (arith, tests)) h).own
      by false x true d = going p s t ((comes v first p s z (omega arith) h n few (omega (arith, tests)) (omega (arith, tests))).stays (f (omega (arith, tests)) (omega (arith, tests))))

  -- the next channel, where it is asked and may be so with those below
  module _ (m : ℕ) (x : Together i v m s) (next : first + n < m) (l : n < 8) where
    module _ (asked : 2 ≤ field 2 v (2 * ((first + n) % 8))) where
      still-unbound : (j : ℕ) → first + n ≤ j → j < 16 → is_bound s j ≡ false → is_bound t j ≡ false
      unfolding is_bound reaches last
      still-unbound j k h u = rw (going j s t (above_same j k h).own, (or-none (stepping s j) _ u).0) (fails (any 16 0 (reaches t j)) (λ e. found (any_some (reaches t j) 16 0 e)))
        where
          found : Found (reaches t j) 16 0 → ⊥
          found f =
              let p : ℕ = f.place in
              let has : (leb p j && leb j (field 4 (word s p 5) 0)) ≡ true = rw (same_word s t (above_same j k h).words p 5) at (and_right (stepping t p) _ f.yes) in
              let near : j ≤ field 4 (word s p 5) 0 = leb-true j _ (and_right (leb p j) _ has) in
              let goes : stepping t p ≡ true = and_left (stepping t p) _ f.yes in
              let went : stepping s p ≡ true =
              holds (stepping s p) (λ o. not-both goes (not-asked p f.below (λ q d e. let w = x.apart p (first + n) q (omega arith) d next e o asked in omega arith) ∙ o)) in
              not-both (any-yes (reaches s j) p 16 0 f.above f.below (and_both went has)) (or-none (stepping s j) _ u).1

      still-free : (j : ℕ) → first + n ≤ j → j < 16 → Free j s → Free j t
      unfolding request hsrr_of
      still-free j k h f = record { unbound = still-unbound j k h f.unbound; none = (above_same j k h).pending ∙ f.none }

    still-stepper : (j : ℕ) → first + n ≤ j → j < 16 → Stepper j s → Stepper j t
    unfolding Stepper function cfsr_of
    still-stepper j k h q = (above_same j k h).stepper ∙ q

    pub initialise-after : field 2 v (2 * ((first + n) % 8)) ≡ 2 → MayInitialise (first + n) t
    initialise-after e =
        let y : MayInitialise (first + n) s = x.initialise (first + n) (omega arith) next e in
        moved-initialise s t (above_same (first + n) (omega arith) (omega arith)).words (first + n) (still-free (omega arith) (first + n) (omega arith) (omega arith) y.free)
        (still-stepper (first + n) (omega arith) (omega arith) y.stepper) y

    pub step_after : field 2 v (2 * ((first + n) % 8)) ≡ 3 → MayStep (first + n) t ⊎ MayRepeat (first + n) t
    unfolding request hsrr_of
    step_after e = ⊎_elim (λ y. inl (steps y)) (λ y. inr (repeats y)) (x.step (first + n) (omega arith) next e)
      where
        own : Same (first + n) s t
        own = above_same (first + n) (omega arith) (omega arith)

        member : (q : ℕ) (w : Timer) (j : ℕ) → first + n ≤ j → j < 16 → Member q w j s → Member q w j t
        member q w j k h y = moved-member s t own.words q w j (still-free (omega arith) j k h y.free) (still-stepper j k h y.stepper) (above_same j k h).own y

        steps : MayStep (first + n) s → MayStep (first + n) t
        steps y =
            moved-step s t own.words (first + n)
            (λ j k h. member _ _ j k (omega (arith, field_lt 4 (word s (first + n) 5) 0)) (rw own.own (y.group j k h))) y

        repeats : MayRepeat (first + n) s → MayRepeat (first + n) t
        repeats y = record { bound = going (first + n) s t own.own ∙ y.bound; none = own.pending ∙ y.none; stepper = still-stepper (first + n) (omega arith) (omega arith) y.stepper }

  -- the group of a channel asked to step is bound
  pub group-bound : (c j : ℕ) → c / 8 ≡ 8 - i → c < first + n → field 2 v (2 * (c % 8)) ≡ 3 → first + n ≤ j → j < 16 → j ≤ field 4 (word s c 5) 0 → is_bound t j ≡ true
  unfolding is_bound reaches last
  group-bound c j q l e k h l5 =
      let goes : stepping t c ≡ true = (comes v first c s z (omega arith) (omega arith) n few (omega arith) l).goes e in
      let near : leb j (field 4 (word t c 5) 0) ≡ true = rw (same_word s t (above_same j k h).words c 5) (le-leb j _ l5) in
      or_right (stepping t j) _ (any-yes (reaches t j) c 16 0 (omega arith) (omega arith) (and_both goes (and_both (le-leb c j (omega arith)) near)))
