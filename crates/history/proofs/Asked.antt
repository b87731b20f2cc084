-- A request that sets a motor going finds every question's numbers right, in the state before it: `asked`.
use Prim.Native.Nat.{ℕ, zero, suc, ◌+◌, ◌-◌, ◌*◌, ◌/◌, ◌%◌, ◌≤◌, ◌<◌}
use native.Mathlib.Omega.{arith}
use native.Mathlib.Nat.{eq-or-lt_of_le}
use mathlib.Core.Bool.{Bool, true, false, ◌&&◌}
use mathlib.Core.Path.{◌≡◌, refl, ap, sym, subst, ◌∙◌}
use mathlib.Core.Logic.{◌≢◌, ⊎_elim}
use lib.Dec.{eqb, leb}
use Rattle.words.specs.declared.Timer.{Timer}
use Rattle.words.specs.Field.{field}
use Rattle.words.proofs.ChoiceLaws.{pick-cases, not-both}
use Rattle.words.proofs.FieldLaws.{field_lt}
use Rattle.motor.specs.Group.{bound}
use Rattle.unit.specs.declared.State.{State}
use Rattle.unit.specs.declared.Channel.{Channel}
use Rattle.unit.specs.declared.Place.{Place}
use Rattle.unit.specs.declared.Place.TheVariants.{AtRegister, AtWord, AtLate, Nowhere}
use Rattle.unit.specs.TheUnit.{each, reg, hsrr_of, request, with_request, with_reg, with_binding, with_channel, channel, word, last, stepping, reaches, is_bound}
use Rattle.unit.specs.Gate.{place, requested, requested_one, Asked, ask_channel, and_then, ask_channels, ask_register, ask_place}
use Rattle.unit.specs.Calls.{answered_by, write_of, is_taken}
use Rattle.unit.specs.Takes.{Free, Stepper, Member, MayStep}
use Rattle.unit.proofs.Together.{same_word, moved-member, moved-step}
use Rattle.unit.proofs.Questions.{step-may}
use Rattle.unit.proofs.Reset.{Sized}
use Rattle.unit.proofs.Access.{request-other, channel-other}
use Rattle.unit.proofs.Places.{gate-place}
use Rattle.history.specs.Moments.{is_step_of, SetsGoing}
use Rattle.history.specs.Leaves.{RegisterLeaves}
use Rattle.history.proofs.Frame.{sized-binding}
use Rattle.history.proofs.Alone.{less-reach}
use Rattle.history.proofs.Walk.{IfYes, yes-then, yes-map, taken_yes, step_of, Allowed, walk-channel, walk-register, channel-asks, channels-ask}
use Rattle.history.proofs.Leaves.{requests-leave}
use Rattle.history.proofs.Fine.{Fine, fine-requests}
use Rattle.history.proofs.Begin.{unreached, unbound-still, below-leave}
use Rattle.history.proofs.Lit.{is-unbound}

-- ---- what the requests of lower channels leave

request-binding : (s : State) (i j : ℕ) → request (with_binding s i) j ≡ request s j
unfolding with_binding with_channel request reg
request-binding s i j = refl

requested-request : (s : State) (i r j : ℕ) → Sized s → i < 16 → j < 16 → j ≢ i → request (requested s i r) j ≡ request s j
unfolding requested
requested-request s i r j z a b n =
    pick-cases (λ w. request w j ≡ request s j) (eqb r 2) (λ t. request-other s i 2 j a b n z)
    (λ t. pick-cases (λ w. request w j ≡ request s j) (eqb r 3)
    (λ u. pick-cases (λ x. request (with_request x i 3) j ≡ request s j) (stepping s i) (λ g. request-other s i 3 j a b n z) (λ g. request-other _ i 3 j a b n (sized-binding s i z) ∙ request-binding s i j))
    (λ u. refl))

lower-requests : (n a v : ℕ) (s : State) (j : ℕ) → Fine s → a + n ≤ j → j < 16 → request (each n a (requested_one v) s) j ≡ request s j
unfolding each requested_one
lower-requests zero a v s j f l h = refl
lower-requests (suc n) a v s j f l h =
    requested-request _ (a + n) _ j (fine-requests n a v s (omega arith) f).sized (omega arith) h (omega arith) ∙ lower-requests n a v s j f (omega arith) h

-- what is under way stays so
requested-stepping : (s : State) (i r p : ℕ) → stepping s p ≡ true → stepping (requested s i r) p ≡ true
unfolding requested with_request with_reg stepping channel with_binding
requested-stepping s i r p g =
    pick-cases (λ w. stepping w p ≡ true) (eqb r 2) (λ t. g)
    (λ t. pick-cases (λ w. stepping w p ≡ true) (eqb r 3)
    (λ u. pick-cases (λ w. stepping w p ≡ true) (stepping s i) (λ k. g)
    (λ k. ap (λ (y : Channel). bound y.phase) (channel-other s i _ p (λ e. not-both g (subst (λ y. stepping s y ≡ false) (sym e) k))) ∙ g))
    (λ u. g))

requests-stepping : (n a v : ℕ) (s : State) (p : ℕ) → stepping s p ≡ true → stepping (each n a (requested_one v) s) p ≡ true
unfolding each requested_one
requests-stepping zero a v s p g = g
requests-stepping (suc n) a v s p g = requested-stepping _ (a + n) _ p (requests-stepping n a v s p g)

less : (b d : Bool) → (b ≡ true → d ≡ true) → d ≡ false → b ≡ false
less true d f e = absurd (not-both (f refl) e)
less false d f e = refl

-- ---- from the state after them to the state before

module _ (n i v : ℕ) (s : State) (f : Fine s) (l : n ≤ 8) (a : 7 ≤ i) (b : i ≤ 8) where
  abbrev w : State
  w = each n (8 * (8 - i)) (requested_one v) s

  leaves : RegisterLeaves (λ d. is_step_of d v (AtRegister i)) i s w
  leaves = requests-leave n i v s l a b

  back-unbound : (j : ℕ) → is_bound w j ≡ false → is_bound s j ≡ false
  unfolding reaches last
  back-unbound j u =
      let z : Sized w = (fine-requests n (8 * (8 - i)) v s (omega arith) f).sized in
      is-unbound j s (less (stepping s j) (stepping w j) (requests-stepping n (8 * (8 - i)) v s j) (unbound-still j w u))
      (λ p. less-reach (stepping s p) (stepping w p) _ (requests-stepping n (8 * (8 - i)) v s p)
      (subst (λ x. (stepping w p && (leb p j && leb j (field 4 x 0))) ≡ false) (same_word s w leaves.words p 5) (unreached j w z u p)))

  back-free : (j : ℕ) → 8 * (8 - i) + n ≤ j → j < 16 → Free j w → Free j s
  unfolding request hsrr_of
  back-free j m h x = record { unbound = back-unbound j x.unbound; none = sym (lower-requests n (8 * (8 - i)) v s j f m h) ∙ x.none }

  back-stepper : (j : ℕ) → Stepper j w → Stepper j s
  unfolding Stepper
  back-stepper j e = ap (λ x. field 4 x (4 * (j % 4))) (sym (leaves.registers (1 + (3 - j / 4)) (λ q. omega arith))) ∙ e

  back-member : (m : ℕ) (o : Timer) (j : ℕ) → 8 * (8 - i) + n ≤ j → j < 16 → Member m o j w → Member m o j s
  back-member m o j k h x = moved-member w s (sym leaves.words) m o j (back-free j k h x.free) (back-stepper j x.stepper) (sym (below-leave n (8 * (8 - i)) v s j k)) x

  back_step : (c : ℕ) → c ≡ 8 * (8 - i) + n → MayStep c w → MayStep c s
  back_step c e m = moved-step w s (sym leaves.words) c (λ j x y. back-member _ _ j (omega arith) (omega (arith, field_lt 4 (word w c 5) 0)) (rw (sym (leaves.kinds c)) (m.group j x y))) m

-- ---- in an HSRR word

allowed : (c : ℕ) (s : State) → Fine s → Allowed c s → MayStep c s
allowed c s f q = step-may c s f.small q.span q.group q.pattern q.ramp q.quick q.target

asked-next : (n i c v : ℕ) (s : State) → n ≤ 8 → 7 ≤ i → i ≤ 8 → c ≡ 8 * (8 - i) + n → field 2 v (2 * (c % 8)) ≡ 3 → Fine s → stepping s c ≡ false
    → IfYes (λ x. MayStep c s) (and_then (ask_channels n (8 * (8 - i)) v s) (ask_channel (field 2 v (2 * ((8 * (8 - i) + n) % 8))) (8 * (8 - i) + n)))
unfolding stepping
asked-next n i c v s l a b z e f g =
    let d : ℕ = 8 * (8 - i) in
    yes-then (λ w. each n (8 * (8 - i)) (requested_one v) s ≡ w) (λ x. MayStep c s) (ask_channels n (8 * (8 - i)) v s) (ask_channel (field 2 v (2 * ((8 * (8 - i) + n) % 8))) (8 * (8 - i) + n)) (channels-ask n (8 * (8 - i)) v s)
    (λ w r. subst (λ x. IfYes (λ y. MayStep c s) (ask_channel (field 2 v (2 * ((8 * (8 - i) + n) % 8))) (8 * (8 - i) + n) x)) r
    (subst (λ x. IfYes (λ y. MayStep c s) (ask_channel (field 2 v (2 * (x % 8))) x (each n (8 * (8 - i)) (requested_one v) s))) z
    (walk-channel (λ y. MayStep c s) (field 2 v (2 * (c % 8))) c (each n (8 * (8 - i)) (requested_one v) s) (λ p q. absurd (q e)) (λ p q2 q4. absurd (omega arith))
    (λ p t. absurd (not-both t (ap (λ (y : Channel). bound y.phase) (below-leave n (8 * (8 - i)) v s c (omega arith)) ∙ g)))
    (λ p q. back_step n i v s f l a b c z (allowed c (each n (8 * (8 - i)) (requested_one v) s) (fine-requests n (8 * (8 - i)) v s (omega arith) f) q)))))

asked-later : (Q : Type 0) (r j : ℕ) (k : Asked) → IfYes (λ x. Q) k → IfYes (λ x. Q) (and_then k (ask_channel r j))
asked-later Q r j k y = yes-then (λ x. Q) (λ x. Q) k (ask_channel r j) y (λ w q. yes-map (λ x. requested w j r ≡ x) (λ x. Q) (ask_channel r j w) (λ x t. q) (channel-asks r j w))

asked-word : (n i c v : ℕ) (s : State) → n ≤ 8 → 7 ≤ i → i ≤ 8 → 8 * (8 - i) ≤ c → c < 8 * (8 - i) + n → field 2 v (2 * (c % 8)) ≡ 3 → Fine s → stepping s c ≡ false → IfYes (λ x. MayStep c s) (ask_channels n (8 * (8 - i)) v s)
unfolding ask_channels
asked-word zero i c v s l a b p q e f g = absurd (omega arith)
asked-word (suc n) i c v s l a b p q e f g =
    let m : c ≤ 8 * (8 - i) + n = omega arith in
    ⊎_elim (λ z. asked-next n i c v s (omega arith) a b z e f g)
    (λ z. asked-later (MayStep c s) (field 2 v (2 * ((8 * (8 - i) + n) % 8))) (8 * (8 - i) + n) (ask_channels n (8 * (8 - i)) v s) (asked-word n i c v s (omega arith) a b p z e f g))
    (eq-or-lt_of_le m)

-- ---- the write

asked-place : (c v : ℕ) (p : Place) (s : State) → is_step_of c v p ≡ true → Fine s → stepping s c ≡ false → is_taken (answered_by (ask_place s p v) s).answer ≡ true → MayStep c s
unfolding is_step_of ask_place hsrr_of
asked-place c v (AtWord j i) s e f g t = absurd (not-both e refl)
asked-place c v (AtLate j) s e f g t = absurd (not-both e refl)
asked-place c v Nowhere s e f g t = absurd (not-both e refl)
asked-place c v (AtRegister i) s e f g t =
    let k : (i ≡ hsrr_of c) × (c < 16) × (field 2 v (2 * (c % 8)) ≡ 3) = step_of i v c e in
    taken_yes (λ x. MayStep c s) s (ask_register s i v)
    (walk-register (λ x. MayStep c s) s i v
    record {
      keep = λ m. absurd (omega arith);
      plain = λ m n o. absurd (⊎_elim (λ y. omega arith) (λ y. omega arith) o);
      functions = λ m n o. absurd (omega arith);
      requests = λ m n. asked-word 8 i c v s (omega arith) m n (omega arith) (omega arith) k.2 f g;
    })
    t

pub asked : (c a v : ℕ) (s : State) → Fine s → SetsGoing c a v s → MayStep c s
unfolding write_of
asked c a v s f g =
    subst (λ k. is_taken (answered_by k s).answer ≡ true → MayStep c s) (sym (gate-place s a v)) (asked-place c v (place a) s g.step f (unbound-still c s g.resting)) g.taken
