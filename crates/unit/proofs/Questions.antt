-- Each question of the gate in numbers, and askings in sequence. Document 01, "Questions at the gate".
use Prim.Native.Nat.{ℕ, zero, suc, ◌+◌, ◌-◌, ◌*◌, ◌≤◌, ◌<◌}
use native.Mathlib.Omega.{arith}
use mathlib.Core.Bool.{Bool, true, false, not, ◌&&◌, ◌||◌}
use mathlib.Core.Path.{◌≡◌, refl, ap, sym, ◌∙◌}
use mathlib.Core.Logic.{◌≢◌, ◌⊎◌, inl, inr, ⊎_elim}
use lib.Dec.{eqb, leb, ltb}
use lib.ListN.{get_or}
use borrow.Author.Tests.{le-leb, lt-ltb, eq-eqb, ne_eqb, eqb-true, eqb-false, leb-true, ltb-true}
use Rattle.words.specs.Choice.{pick, ask}
use Rattle.words.specs.declared.Timer.{Timer}
use Rattle.words.specs.Field.{field, bit_of}
use Rattle.words.specs.Rotation.{rotated_right}
use Rattle.words.proofs.ChoiceLaws.{not-both, and_left, and_right}
use Rattle.words.proofs.ClockLaws.{same-timer, timer-itself}
use Rattle.words.proofs.FieldLaws.{field_lt, words-equal}
use Rattle.words.proofs.RotationLaws.{right-bit, right-fits}
use Rattle.motor.specs.Stepping.{period}
use Rattle.unit.specs.declared.State.{State}
use Rattle.unit.specs.TheUnit.{all, cfsr_of, hsrr_of, function, request, channel, word, channel_control, pin_control, target, mod_count, next_rate, top, last, cntl0, cntl1, size, stepping, is_bound}
use Rattle.unit.specs.Gate.{is_free, is_stepper, is_timed, may_initialise, otherwise_zero, span_good, is_ready, group_ready, shows_pattern, pattern_good, ramp_good, quick_good, target_good, requested, Asked, Yes, No, ask_initialise, ask_step}
use Rattle.unit.specs.Takes.{Free, Stepper, MayInitialise, Member, MayStep, MayRepeat}
use Rattle.unit.proofs.Tests.{and_both, not_yes, all_yes, or_left, or_right, or-none}
use Rattle.std.specs.Prelude.{Err, Ok}
use Rattle.unit.specs.Refusals.{Answer}
use Rattle.unit.specs.declared.Refusal.TheVariants.{GroupNotReady, NotFree, OtherFunction, TargetTooFar, TooFast, WrongControl, WrongPattern, WrongRamp, WrongSpan}
use Rattle.unit.specs.declared.Refusal.{Refusal}

not-no : {b : Bool} → b ≡ false → not b ≡ true
not-no e = rw e refl

pub or-second : (a b : Bool) → (a || b) ≡ true → a ≡ false → b ≡ true
or-second true b e f = absurd (not-both refl f)
or-second false b e f = e

pub all-all : (f : ℕ → Bool) (n a : ℕ) → ((p : ℕ) → a ≤ p → p < a + n → f p ≡ true) → all n a f ≡ true
unfolding all
all-all f zero a h = refl
all-all f (suc n) a h = and_both (all-all f n a (λ p x y. h p x (omega arith))) (h (a + n) (omega arith) (omega arith))

-- ---- an asking

unfoldable pub is_yes : Asked → Bool
is_yes (Yes w) = true
is_yes (No n) = false

unfoldable pub answer_of : Asked → Answer
answer_of (Yes w) = Ok tt
answer_of (No n) = Err n

-- ---- question 4

pub either : (x a b : ℕ) → (eqb x a || eqb x b) ≡ true → (x ≡ a) ⊎ (x ≡ b)
either x a b e = by (eqb x a) refl
  where
    by : (t : Bool) → eqb x a ≡ t → (x ≡ a) ⊎ (x ≡ b)
    by true t = inl (eqb-true x a t)
    by false t = inr (eqb-true x b (or-second (eqb x a) (eqb x b) e t))

is-either : (x a b : ℕ) → (x ≡ a) ⊎ (x ≡ b) → (eqb x a || eqb x b) ≡ true
is-either x a b h = ⊎_elim (λ e. or_left (eqb x a) (eqb x b) (eq-eqb x a e)) (λ e. or_right (eqb x a) (eqb x b) (eq-eqb x b e)) h

initialise-may : (c : ℕ) (s : State) → Free c s → Stepper c s → may_initialise s c ≡ true → MayInitialise c s
unfolding may_initialise is_timed channel_control pin_control bit_of
initialise-may c s f t e =
    let n : ℕ = field 4 (word s c 0) 5 in
    let q : field 2 (word s c 0) 0 ≡ pick (eqb (field 1 (word s c 1) 15) 1) 1 2 = eqb-true _ _ (and_right (eqb n 4 || eqb n 7) _ e) in
    record {
      free = f;
      stepper = t;
      timed = either (field 4 (word s c 0) 5) 4 7 (and_left (eqb n 4 || eqb n 7) _ e);
      high = λ b. q ∙ ap (λ y. pick y 1 2) (eq-eqb _ 1 b);
      low = λ b. q ∙ ap (λ y. pick y 1 2) (ne_eqb (field 1 (word s c 1) 15) 1 (λ d. omega arith));
    }

initialise-good : (c : ℕ) (s : State) → MayInitialise c s → may_initialise s c ≡ true
unfolding may_initialise is_timed channel_control pin_control bit_of
initialise-good c s x = and_both (is-either (field 4 (word s c 0) 5) 4 7 x.timed) (eq-eqb _ _ (by (eqb (field 1 (word s c 1) 15) 1) refl))
  where
    by : (b : Bool) → eqb (field 1 (word s c 1) 15) 1 ≡ b → field 2 (word s c 0) 0 ≡ pick b 1 2
    by true t = x.high (eqb-true _ 1 t)
    by false t = let n : field 1 (word s c 1) 15 ≢ 1 = eqb-false _ 1 t in x.low (omega (arith, field_lt 1 (word s c 1) 15))

-- ---- questions in sequence

ask-first : (q : Bool) (n : Refusal) (k : Asked) → is_yes (ask q (No n) k) ≡ true → q ≡ true
unfolding ask is_yes
ask-first true n k e = refl
ask-first false n k e = absurd (not-both e refl)

ask-rest : (q : Bool) (n : Refusal) (k : Asked) → is_yes (ask q (No n) k) ≡ true → is_yes k ≡ true
unfolding ask is_yes
ask-rest true n k e = e
ask-rest false n k e = absurd (not-both e refl)

pub yes-asks : (q : Bool) (w : State) → is_yes (ask q (No OtherFunction) (Yes w)) ≡ q
unfolding ask is_yes
yes-asks true w = refl
yes-asks false w = refl

-- ---- each question in numbers

pub free-is : (j : ℕ) (s : State) → is_free s j ≡ true → Free j s
unfolding is_free request hsrr_of
free-is j s e = record { unbound = not_yes (is_bound s j) (and_left (not (is_bound s j)) _ e); none = eqb-true _ 0 (and_right (not (is_bound s j)) _ e) }

pub is_free_lem : (j : ℕ) (s : State) → Free j s → is_free s j ≡ true
unfolding is_free request hsrr_of
is_free_lem j s x = and_both (not-no x.unbound) (eq-eqb _ 0 x.none)

pub stepper-is : (j : ℕ) (s : State) → is_stepper s j ≡ true → Stepper j s
unfolding is_stepper function cfsr_of Stepper
stepper-is j s e = eqb-true _ 13 e

pub is-stepper : (j : ℕ) (s : State) → Stepper j s → is_stepper s j ≡ true
unfolding is_stepper function cfsr_of Stepper
is-stepper j s e = eq-eqb _ 13 e

pub is-still : (j : ℕ) (s : State) → is_bound s j ≡ false → stepping s j ≡ false
unfolding is_bound
is-still j s u = (or-none (stepping s j) _ u).0

-- initialise

pub initialise-asks : (c : ℕ) (s : State) → is_yes (ask_initialise s c) ≡ true → MayInitialise c s
unfolding ask_initialise
initialise-asks c s e =
    let e3 : is_yes (ask (is_stepper s c) (No OtherFunction) (ask (may_initialise s c) (No WrongControl) (Yes (requested s c 2)))) ≡ true = ask-rest (is_free s c) _ _ e in
    may (free-is c s (ask-first (is_free s c) _ _ e)) (stepper-is c s (ask-first (is_stepper s c) _ _ e3)) (ask-first (may_initialise s c) _ _ (ask-rest (is_stepper s c) _ _ e3))
  where
    may : Free c s → Stepper c s → may_initialise s c ≡ true → MayInitialise c s
    may f t q = initialise-may c s f t q

pub is-initialise : (c : ℕ) (s : State) → MayInitialise c s → ask_initialise s c ≡ Yes (requested s c 2)
unfolding ask_initialise ask
is-initialise c s x = rw (is_free_lem c s x.free, is-stepper c s x.stepper, initialise-good c s x) refl

-- a step

zero_is : (w : ℕ) → otherwise_zero w ≡ true → (field 4 w 12 ≡ 0) × (field 4 w 4 ≡ 0)
unfolding otherwise_zero
zero_is w e = (eqb-true _ 0 (and_left (eqb (field 4 w 12) 0) _ e), eqb-true _ 0 (and_right (eqb (field 4 w 12) 0) _ e))

is_zero : (w : ℕ) → (field 4 w 12 ≡ 0) × (field 4 w 4 ≡ 0) → otherwise_zero w ≡ true
unfolding otherwise_zero
is_zero w x = and_both (eq-eqb _ 0 x.0) (eq-eqb _ 0 x.1)

module _ (c : ℕ) (s : State) (words : (k : ℕ) → get_or s.words k 0 ≤ 0xffff) where
  small : (j i : ℕ) → word s j i ≤ 0xffff
  unfolding word
  small j i = words (8 * j + i)

  member_is : (k : Timer) (j : ℕ) → is_ready s k j ≡ true → shows_pattern s (mod_count s c) j ≡ true → Member (field 4 (word s c 4) 8) k j s
  unfolding is_ready shows_pattern channel_control pin_control mod_count
  member_is k j r p =
      let e : word s j 0 ≡ rotated_right (word s j 1) (field 4 (word s c 4) 8) = eqb-true _ _ p in
      let a : (is_stepper s j && ((channel s j).initialised && is_free s j)) ≡ true = and_left (is_stepper s j && ((channel s j).initialised && is_free s j)) _ r in
      let q : ((channel s j).initialised && is_free s j) ≡ true = and_right (is_stepper s j) _ a in
      record {
        free = free-is j s (and_right (channel s j).initialised _ q);
        stepper = stepper-is j s (and_left (is_stepper s j) _ a);
        initialised = and_left (channel s j).initialised _ q;
        kind = same-timer (channel s j).kind k (and_right (is_stepper s j && ((channel s j).initialised && is_free s j)) _ r);
        pattern = λ i l. ap (λ w. field 1 w i) e ∙ right-bit (word s j 1) (field 4 (word s c 4) 8) i (omega (arith, small j 1)) (omega (arith, field_lt 4 (word s c 4) 8)) l;
      }

  is-ready : (m : ℕ) (k : Timer) (j : ℕ) → Member m k j s → is_ready s k j ≡ true
  unfolding is_ready
  is-ready m k j x = and_both (and_both (is-stepper j s x.stepper) (and_both x.initialised (is_free_lem j s x.free))) (rw x.kind (timer-itself k))

  is-shown : (m : ℕ) (k : Timer) (j : ℕ) → m < 16 → Member m k j s → shows_pattern s m j ≡ true
  unfolding shows_pattern channel_control pin_control
  is-shown m k j h x =
      eq-eqb _ _ (words-equal 16 (word s j 0) (rotated_right (word s j 1) m) (omega (arith, small j 0)) (right-fits (word s j 1) m (omega (arith, small j 1)) (omega arith))
      (λ i l. x.pattern i l ∙ sym (right-bit (word s j 1) m i (omega (arith, small j 1)) (omega arith) l)))

  pub step-may : span_good s c ≡ true → group_ready s c ≡ true → pattern_good s c ≡ true → ramp_good (cntl0 s c) (cntl1 s c) (top s c) ≡ true
      → quick_good (cntl0 s c) (cntl1 s c) (top s c) ≡ true → target_good s c (target s c) ≡ true → MayStep c s
  unfolding span_good group_ready pattern_good ramp_good quick_good target_good period cntl0 cntl1 top last target next_rate size
  step-may q5 q6 q7 q8 q14 q9 =
      let a5 : (otherwise_zero (word s c 5) && (leb 1 (field 4 (word s c 5) 8) && leb (field 4 (word s c 5) 8) 14)) ≡ true = and_left (otherwise_zero (word s c 5) && (leb 1 (field 4 (word s c 5) 8) && leb (field 4 (word s c 5) 8) 14)) _ q5 in
      let b5 : (leb 1 (field 4 (word s c 5) 8) && leb (field 4 (word s c 5) 8) 14) ≡ true = and_right (otherwise_zero (word s c 5)) _ a5 in
      let c5 : (ltb c (field 4 (word s c 5) 0) && leb (field 4 (word s c 5) 0) (c + 7)) ≡ true = and_right (otherwise_zero (word s c 5) && (leb 1 (field 4 (word s c 5) 8) && leb (field 4 (word s c 5) 8) 14)) _ q5 in
      let a7 : (otherwise_zero (word s c 4) && eqb (field 4 (word s c 4) 0) 1) ≡ true = and_left (otherwise_zero (word s c 4) && eqb (field 4 (word s c 4) 0) 1) _ q7 in
      let n : ℕ = field 4 (word s c 5) 8 in
      let l : field 4 (word s c 5) 8 ≤ 14 = leb-true (field 4 (word s c 5) 8) 14 (and_right (leb 1 (field 4 (word s c 5) 8)) _ b5) in
      let p14 : 128 ≤ word s (suc c) 3 - word s (suc c) 2 * (1 + field 4 (word s c 5) 8) = leb-true 128 _ q14 in
      let r8 : word s (suc c) 3 - word s (suc c) 2 * (1 + 1) ≤ 0x7fff = leb-true _ 0x7fff (and_right (leb 1 (word s (suc c) 3 - word s (suc c) 2 * (1 + field 4 (word s c 5) 8))) _ q8) in
      let p9 : word s c 3 ≤ 0xffff - field 4 (word s c 5) 8 = leb-true _ _ q9 in
      record {
        zero5 = zero_is (word s c 5) (and_left (otherwise_zero (word s c 5)) _ a5);
        least = leb-true 1 (field 4 (word s c 5) 8) (and_left (leb 1 (field 4 (word s c 5) 8)) _ b5);
        most = l;
        above = ltb-true c (field 4 (word s c 5) 0) (and_left (ltb c (field 4 (word s c 5) 0)) _ c5);
        near = leb-true (field 4 (word s c 5) 0) (c + 7) (and_right (ltb c (field 4 (word s c 5) 0)) _ c5);
        zero4 = zero_is (word s c 4) (and_left (otherwise_zero (word s c 4)) _ a7);
        slow = eqb-true _ 1 (and_right (otherwise_zero (word s c 4)) _ a7);
        group = λ j a b. member_is (channel s c).kind j (all_yes (is_ready s (channel s c).kind) j (suc (field 4 (word s c 5) 0) - c) c a (omega arith) q6)
            (all_yes (shows_pattern s (mod_count s c)) j (suc (field 4 (word s c 5) 0) - c) c a (omega arith) (and_right (otherwise_zero (word s c 4) && eqb (field 4 (word s c 4) 0) 1) _ q7));
        fastest = omega arith;
        slowest = omega arith;
        target = omega arith;
      }

  pub step-asks : is_bound s c ≡ false → is_yes (ask_step s c) ≡ true → MayStep c s
  unfolding ask_step
  step-asks u e = by (stepping s c) (is-still c s u) e
    where
      Rest : Asked
      Rest =
          ask (is_free s c) (No NotFree) (ask (is_stepper s c) (No OtherFunction) (ask (span_good s c) (No WrongSpan) (ask (group_ready s c) (No GroupNotReady) (ask (pattern_good s c) (No WrongPattern)
          (ask (ramp_good (cntl0 s c) (cntl1 s c) (top s c)) (No WrongRamp) (ask (quick_good (cntl0 s c) (cntl1 s c) (top s c)) (No TooFast)
          (ask (target_good s c (target s c)) (No TargetTooFar) (Yes (requested s c 3)))))))))

      rest : is_yes Rest ≡ true → MayStep c s
      rest e2 =
          let e3 = ask-rest (is_free s c) _ _ e2 in
          let e5 = ask-rest (is_stepper s c) _ _ e3 in
          let e6 = ask-rest (span_good s c) _ _ e5 in
          let e7 = ask-rest (group_ready s c) _ _ e6 in
          let e8 = ask-rest (pattern_good s c) _ _ e7 in
          let e14 = ask-rest (ramp_good (cntl0 s c) (cntl1 s c) (top s c)) _ _ e8 in
          let e9 = ask-rest (quick_good (cntl0 s c) (cntl1 s c) (top s c)) _ _ e14 in
          step-may (ask-first (span_good s c) _ _ e5) (ask-first (group_ready s c) _ _ e6) (ask-first (pattern_good s c) _ _ e7) (ask-first (ramp_good (cntl0 s c) (cntl1 s c) (top s c)) _ _ e8)
          (ask-first (quick_good (cntl0 s c) (cntl1 s c) (top s c)) _ _ e14) (ask-first (target_good s c (target s c)) _ _ e9)

      by : (b : Bool) → b ≡ false → is_yes (pick (b && eqb (request s c) 0) (ask (is_stepper s c) (No OtherFunction) (Yes (requested s c 3))) Rest) ≡ true → MayStep c s
      by true z e = absurd (not-both refl z)
      by false z e = rest e

  module _ (x : MayStep c s) where
    is-span : span_good s c ≡ true
    unfolding span_good top last
    is-span = and_both (and_both (is_zero (word s c 5) x.zero5) (and_both (le-leb 1 _ x.least) (le-leb _ 14 x.most))) (and_both (lt-ltb c _ x.above) (le-leb _ (c + 7) x.near))

    is-group : group_ready s c ≡ true
    unfolding group_ready size last
    is-group = all-all (is_ready s (channel s c).kind) (suc (field 4 (word s c 5) 0) - c) c (λ j a b. is-ready _ _ j (x.group j a (omega (arith, x.above))))

    is-pattern : pattern_good s c ≡ true
    unfolding pattern_good next_rate mod_count size last
    is-pattern =
        and_both (and_both (is_zero (word s c 4) x.zero4) (eq-eqb _ 1 x.slow))
        (all-all (shows_pattern s (field 4 (word s c 4) 8)) (suc (field 4 (word s c 5) 0) - c) c (λ j a b. is-shown (field 4 (word s c 4) 8) (channel s c).kind j (field_lt 4 (word s c 4) 8) (x.group j a (omega (arith, x.above)))))

    is-ramp : ramp_good (cntl0 s c) (cntl1 s c) (top s c) ≡ true
    unfolding ramp_good period cntl0 cntl1 top
    is-ramp =
        and_both (le-leb 1 (word s (suc c) 3 - word s (suc c) 2 * (1 + field 4 (word s c 5) 8)) (omega (arith, x.fastest)))
        (le-leb (word s (suc c) 3 - word s (suc c) 2 * (1 + 1)) 0x7fff (omega (arith, x.slowest)))

    is-quick : quick_good (cntl0 s c) (cntl1 s c) (top s c) ≡ true
    unfolding quick_good period cntl0 cntl1 top
    is-quick = le-leb 128 (word s (suc c) 3 - word s (suc c) 2 * (1 + field 4 (word s c 5) 8)) (omega (arith, x.fastest))

    is-target : target_good s c (target s c) ≡ true
    unfolding target_good target top
    is-target = le-leb (word s c 3) (0xffff - field 4 (word s c 5) 8) (omega (arith, x.target))

    own-member : Member (field 4 (word s c 4) 8) (channel s c).kind c s
    own-member = x.group c (omega arith) (omega (arith, x.above))

    pub is-step : ask_step s c ≡ Yes (requested s c 3)
    unfolding ask_step ask
    is-step = rw (is-still c s own-member.free.unbound, is_free_lem c s own-member.free, is-stepper c s own-member.stepper, is-span, is-group, is-pattern, is-ramp, is-quick, is-target) refl

pub is-repeat : (c : ℕ) (s : State) → MayRepeat c s → ask_step s c ≡ Yes (requested s c 3)
unfolding ask_step ask request hsrr_of
is-repeat c s x = rw (x.bound, eq-eqb _ 0 x.none, is-stepper c s x.stepper) refl
