-- What a tick does to a pending request: `request-done`, `request-waits`; and to a channel that is not bound: `settled`, with an initialise
-- that is served, else nothing of it.
use Prim.Native.Nat.{ℕ, ◌*◌, ◌%◌, ◌≤◌, ◌<◌}
use native.Mathlib.Omega.{arith}
use mathlib.Core.Bool.{Bool, true, false}
use mathlib.Core.Path.{◌≡◌, refl, ap, sym, ◌∙◌}
use mathlib.Core.Logic.{◌≢◌}
use mathlib.Core.List.{List, []}
use lib.Dec.{eqb}
use borrow.Author.Tests.{eqb-true, eqb-false}
use Rattle.words.specs.Field.{field}
use Rattle.words.proofs.ChoiceLaws.{pick-cases, not-both}
use Rattle.words.proofs.FieldLaws.{field_lt}
use Rattle.slots.specs.declared.Slots.{Slots}
use Rattle.motor.specs.declared.Phase.TheVariants.{Resting}
use Rattle.motor.specs.declared.Outcome.{Outcome}
use Rattle.motor.specs.declared.Outcome.TheVariants.{Arrived, Step}
use Rattle.unit.specs.declared.State.{State}
use Rattle.unit.specs.TheUnit.{with_timers, hsrr_of, reg, request, with_request, with_slots, status, with_status, with_pin, with_pins, channel, with_channel, with_set_up, kind_in, with_phase, with_late, word, with_word, with_words, stepping, reaches, channel_control, pin_control}
use Rattle.unit.specs.Stepping.{outcome}
use Rattle.unit.specs.OneTick.{matched, initialise, request_served, match_served, served, clocked, matches, tick}
use Rattle.unit.proofs.Reset.{Sized}
use Rattle.unit.proofs.Passing.{left-each, left_step, left-matched}
use Rattle.unit.proofs.Access.{sized-pin, sized-word, sized-channel, request-same, request-other, request-status, status-same, status-other, status-request}
use Rattle.history.proofs.TickWalk.{walk-served, walk-own}
use Rattle.history.proofs.Frame.{Going, sized-request, sized-phase, sized-initialise, sized-outcome, sized-late}
use Rattle.history.proofs.Alone.{Fades, request-initialise, request-outcome, fades-matches, fades-slots}
use Rattle.history.proofs.Ticks.{ours}
use Rattle.history.proofs.Parts.{part, part-served, part-request}
use Rattle.history.proofs.Pins.{initialised_part, own-initialise, still-apart, rests-on, unbound-still, unbound-slots}

-- ---- the bits of a channel in the registers

record Bits : Type 0 where
  request : ℕ
  status : Bool

unfoldable bits : State → ℕ → Bits
bits s j = record { request = request s j; status = status s j }

-- they stand in the registers alone
bits-regs : (s t : State) (j : ℕ) → s.regs ≡ t.regs → bits s j ≡ bits t j
unfolding bits request status reg
bits-regs s t j e = ap (λ (r : List ℕ). bits record { words = []; regs = r; timers = record { tcr1 = 0; tcr2 = 0 }; pins = 0; channels = []; slots = s.slots } j) e

module _ (i j : ℕ) (hi : i < 16) (hj : j < 16) (n : j ≢ i) where
  bits-status : (s : State) → Sized s → bits (with_status s i) j ≡ bits s j
  unfolding bits
  bits-status s z = λ k. record { request = request-status s i j k; status = status-other s i j z n k }

  bits-request : (s : State) → Sized s → bits (with_request s i 0) j ≡ bits s j
  unfolding bits
  bits-request s z = λ k. record { request = request-other s i 0 j hi hj n z k; status = status-request s i 0 j k }

  bits-outcome : (s : State) (reference : ℕ) (o : Outcome) → Sized s → bits (outcome s i reference o) j ≡ bits s j
  unfolding outcome with_phase with_channel
  bits-outcome s reference Arrived z = bits-status _ (sized-phase s i _ _ z) ∙ bits-regs _ s j refl
  bits-outcome s reference (Step w k) z = bits-regs _ s j (left_step s i reference w k).regs

  bits-initialise : (s : State) → Sized s → bits (initialise i s) j ≡ bits s j
  unfolding initialise with_set_up with_channel with_word with_words with_pin with_pins channel_control pin_control
  bits-initialise s z =
      let u : State = with_pin s i (eqb (field 2 (channel_control s i) 0) 1) in
      let v : State = with_word u i 0 (pin_control s i) in
      let w : State = with_set_up v i (kind_in (word s i 0)) in
      bits-status w (sized-channel v i _ (sized-word u i 0 (pin_control s i) (sized-pin s i (eqb (field 2 (channel_control s i) 0) 1) z))) ∙ bits-regs w s j refl

  bits-served : (s : State) → Sized s → bits (served i s) j ≡ bits s j
  unfolding with_late with_channel
  bits-served s z =
      (walk-served (λ t. Sized t × (bits t j ≡ bits s j)) i s
      record {
        clears = (sized-request s i 0 z, bits-request s z);
        passes = λ a b. (z, refl);
        sets-up = λ t a p. (sized-initialise i t p.0, bits-initialise t p.0 ∙ p.1);
        moves = λ t reference o a p. (sized-outcome t i reference o p.0, bits-outcome t reference o p.0 ∙ p.1);
        tells = λ t m p. (sized-late t i m p.0, bits-regs _ t j refl ∙ p.1);
      }
      ).1

status-initialised : (j : ℕ) (s : State) → Sized s → status (initialise j s) j ≡ true
unfolding initialise with_set_up
status-initialised j s z = status-same _ j (sized-channel _ j _ (sized-word _ j 0 _ (sized-pin s j _ z)))

-- ---- a request through a tick

request-served : (j : ℕ) (s : State) → Sized s → 2 ≤ request s j → request (served j s) j ≡ 0
unfolding with_late with_channel request reg
request-served j s z h =
    walk-served (λ t. request t j ≡ 0) j s
    record {
      clears = request-same s j 0 (omega arith) z;
      passes = λ a b. absurd (omega (arith, field_lt 2 (reg s (hsrr_of j)) (2 * (j % 8))));
      sets-up = λ t a e. request-initialise j t ∙ e;
      moves = λ t reference o a e. request-outcome j t reference o ∙ e;
      tells = λ t n e. e;
    }

matches-bits : (j : ℕ) (s : State) → bits (matches s) j ≡ bits s j
unfolding matches clocked with_timers with_slots
matches-bits j s = bits-regs _ s j (left-each 16 0 matched left-matched (clocked s)).regs

slots-bits : (j : ℕ) (s : State) (x : Slots) → bits (with_slots (matches s) x) j ≡ bits s j
unfolding with_slots
slots-bits j s x = bits-regs _ (matches s) j refl ∙ matches-bits j s

module _ (j : ℕ) (s : State) (h : j < 16) (z : Sized s) (g : Going s) where
  served-sized : (x : Slots) → Sized (with_slots (matches s) x)
  served-sized x = (fades-slots s x (matches s) (fades-matches s z g)).sized

  -- served, it is done
  pub request-done : 2 ≤ request s j → ours j s ≡ true → request (tick s) j ≡ 0
  unfolding ours bits
  request-done l =
      walk-own (λ o x t. o ≡ true → request t j ≡ 0) j s (λ e. absurd (not-both e refl))
      (λ u e. request-served j (with_slots (matches s) u) (served-sized u) (omega (arith, ap (λ (x : Bits). x.request) (slots-bits j s u))))
      (λ d u h n e. absurd (not-both e refl))

  -- not served, it stays
  pub request-waits : ours j s ≡ false → request (tick s) j ≡ request s j
  unfolding ours bits
  request-waits =
      walk-own (λ o x t. o ≡ false → request t j ≡ request s j) j s (λ e. ap (λ (x : Bits). x.request) (matches-bits j s)) (λ u e. absurd (not-both refl e))
      (λ d u l n e. ap (λ (x : Bits). x.request) (bits-served d j l h n (with_slots (matches s) u) (served-sized u) ∙ slots-bits j s u))

-- ---- one channel through a tick

-- with an initialise that is served it is initialised, else nothing of it
pub record Settled (j : ℕ) (s t : State) : Type 0 where
  pub part-both : request s j ≡ 2 → ours j s ≡ true → part j j t ≡ initialised_part (part j j s)
  pub status-both : request s j ≡ 2 → ours j s ≡ true → status t j ≡ true
  pub part-not : (request s j ≡ 2 → ours j s ≡ false) → part j j t ≡ part j j s
  pub status-not : (request s j ≡ 2 → ours j s ≡ false) → status t j ≡ status s j

module _ (j : ℕ) (s : State) (h : j < 16) (z : Sized s) (g : Going s) (rests : stepping s j ≡ false) (apart : (i : ℕ) → reaches s j i ≡ false) where
  -- as it was, before a service of its own
  abbrev Unserved : State → Type 0
  Unserved t = (part j j t ≡ part j j s) × (bits t j ≡ bits s j)

  kept : (t : State) → Unserved t → ours j s ≡ false → Settled j s t
  unfolding bits
  kept t x o =
      record {
        part-both = λ a b. absurd (not-both b o);
        status-both = λ a b. absurd (not-both b o);
        part-not = λ a. x.0;
        status-not = λ a. ap (λ (y : Bits). y.status) x.1;
      }

  -- its own service
  own : (t : State) → Fades s t → Unserved t → ours j s ≡ true → Settled j s (served j t)
  unfolding served match_served request_served bits
  own t f x o =
      let q : ((channel t j).phase ≡ Resting) × (request t j ≢ 3) = rests-on j s h z g rests apart t f in
      let r : request t j ≡ request s j = ap (λ (y : Bits). y.request) x.1 in
      let u : State = with_request t j 0 in
      let zu : Sized u = sized-request t j 0 f.sized in
      rw q.0
      (pick-cases (Settled j s) (eqb (request t j) 2)
      (λ c. let two : request s j ≡ 2 = sym r ∙ eqb-true (request t j) 2 c in
      record {
        part-both = λ a b. own-initialise j u h zu ∙ ap initialised_part (part-request j j j 0 t ∙ x.0);
        status-both = λ a b. status-initialised j u zu;
        part-not = λ a. absurd (not-both o (a two));
        status-not = λ a. absurd (not-both o (a two));
      })
      (λ c. let not-two : request s j ≢ 2 = λ a. eqb-false (request t j) 2 c (r ∙ a) in
      pick-cases (Settled j s) (eqb (request t j) 3) (λ d. absurd (q.1 (eqb-true (request t j) 3 d)))
      (λ d. record {
        part-both = λ a. absurd (not-two a);
        status-both = λ a. absurd (not-two a);
        part-not = λ a. x.0;
        status-not = λ a. ap (λ (y : Bits). y.status) x.1;
      })))

  unserved-on : (i : ℕ) (t : State) → i < 16 → j ≢ i → Fades s t → Unserved t → Unserved (served i t)
  unserved-on i t l n f x =
      (part-served j j i n t l f.sized f.going (λ q. absurd (n q)) (still-apart j s h z g rests apart t f i) ∙ x.0, bits-served i j l h n t f.sized ∙ x.1)

  unserved-matches : Unserved (matches s)
  unserved-matches = (unbound-still j s h z g rests apart, matches-bits j s)

  unserved-slots : (x : Slots) → Unserved (with_slots (matches s) x)
  unserved-slots x = (unbound-slots j s h z g rests apart x, slots-bits j s x)

  pub settled : Settled j s (tick s)
  unfolding ours
  settled =
      walk-own (λ o x t. ours j s ≡ o → Settled j s t) j s (kept (matches s) unserved-matches)
      (λ u. own (with_slots (matches s) u) (fades-slots s u (matches s) (fades-matches s z g)) (unserved-slots u))
      (λ d u l n. kept _ (unserved-on d (with_slots (matches s) u) l n (fades-slots s u (matches s) (fades-matches s z g)) (unserved-slots u)))
      refl
