-- What waits to be served stays so until it is, whatever else happens, so that slots come to it: `served-within`.
use Prim.Native.Nat.{ℕ, zero, suc, ◌+◌, ◌-◌, ◌*◌, ◌/◌, ◌%◌, ◌≤◌, ◌<◌}
use native.Mathlib.Omega.{arith}
use mathlib.Core.Bool.{Bool, true, false}
use mathlib.Core.List.{List, [], ◌∷◌}
use mathlib.Core.Path.{◌≡◌, refl, ap, sym, subst, ◌∙◌}
use mathlib.Core.Logic.{◌≢◌, ◌⊎◌, inl, inr, ⊎_elim}
use lib.Dec.{eqb, leb}
use borrow.Author.Tests.{eqb-true, eqb-false, eq-eqb, ne_eqb, le-leb}
use Rattle.words.specs.Choice.{pick}
use Rattle.words.specs.declared.Timer.{Timer}
use Rattle.words.specs.Clock.{due}
use Rattle.words.specs.Field.{field}
use Rattle.words.proofs.ChoiceLaws.{pick-cases, not-both}
use Rattle.slots.specs.declared.Slots.{Slots}
use Rattle.slots.specs.Slots.{ticked, chosen}
use Rattle.slots.specs.Claims.{goes_to, leaves, service_of, patience}
use Rattle.slots.specs.Claims as slots
use Rattle.slots.proofs.Within.{one-service}
use Rattle.motor.specs.declared.Way.{Way}
use Rattle.motor.specs.declared.Phase.{Phase}
use Rattle.motor.specs.declared.Phase.TheVariants.{Resting, Matched}
use Rattle.motor.specs.declared.Outcome.{Outcome}
use Rattle.motor.specs.declared.Outcome.TheVariants.{Arrived, Step}
use Rattle.unit.specs.declared.Channel.{Channel}
use Rattle.unit.specs.declared.State.{State}
use Rattle.unit.specs.TheUnit.{with_reg, with_timers, with_slots, with_pins, with_channel, each, cisr, hsrr_of, cpr_of, with_initialised, with_binding, stepping, reg, request, with_request, priority, with_status, with_pin, channel, with_set_up, with_level, with_phase, with_late, time_for, with_words, with_word, mod_count, size}
use Rattle.unit.specs.Stepping.{pin_out, pins_out, next_count, prepared, match_set, stepped, outcome}
use Rattle.unit.specs.OneTick.{matched, initialise, served, clocked, matches, service_in, tick}
use Rattle.unit.specs.Pending.{is_matched, is_wanted, wanted, asks_of}
use Rattle.unit.specs.declared.Place.{Place}
use Rattle.unit.specs.Gate.{place, requested, requested_one, stored, ask_place}
use Rattle.unit.proofs.Reset.{Sized}
use Rattle.unit.proofs.Places.{PlaceGood, place-good, gate-place}
use Rattle.history.proofs.TickWalk.{walk-each, walk-matched, walk-served, walk-own}
use Rattle.history.proofs.Walk.{IfTaken, walk-place, word-yes, taken-answer}
use Rattle.unit.proofs.Access.{sized-reg, sized-timers, sized-pin, sized-channel, sized-word, channel-same, channel-other, channel-keeps, reg-other, hsrr-range, request-same, request-other, request-status}
use Rattle.unit.specs.Calls.{Call, write_of}
use Rattle.history.specs.Moments.{Act, Ticks, Writes, Nothing, does, priority_of}
use Rattle.history.specs.Always.{StateOf}
use Rattle.history.specs.Served.{Waiting, AtLevel, ticks_of, turn_in, ServedWithin}
use Rattle.history.proofs.Fine.{Fine}
use Rattle.history.proofs.Always.{state-good}
use Rattle.history.proofs.Frame.{sized-request, sized-binding, sized-slots}
use Rattle.history.proofs.Ticks.{priority-matches}
use Rattle.history.proofs.Chain.{priority-small, some}

-- of c, the request and the phase are those of b
record Still (c : ℕ) (b s : State) : Type 0 where
  sized : Sized s
  request : request s c ≡ request b c
  phase : (channel s c).phase ≡ (channel b c).phase
  slots : s.slots ≡ b.slots

module _ (c : ℕ) (hc : c < 16) (b : State) where
  still-word : (j i v : ℕ) (s : State) → Still c b s → Still c b (with_word s j i v)
  unfolding with_word with_words channel request reg
  still-word j i v s f = record { sized = sized-word s j i v f.sized; request = f.request; phase = f.phase; slots = f.slots }

  still-pin : (j : ℕ) (on : Bool) (s : State) → Still c b s → Still c b (with_pin s j on)
  unfolding with_pin with_pins channel request reg
  still-pin j on s f = record { sized = sized-pin s j on f.sized; request = f.request; phase = f.phase; slots = f.slots }

  still-status : (j : ℕ) (s : State) → Still c b s → Still c b (with_status s j)
  unfolding with_status with_reg channel
  still-status j s f = record { sized = sized-reg s _ _ f.sized; request = request-status s j c ∙ f.request; phase = f.phase; slots = f.slots }

  still-channel : (j : ℕ) (x : Channel) (s : State) → (channel (with_channel s j x) c).phase ≡ (channel s c).phase → Still c b s → Still c b (with_channel s j x)
  unfolding with_channel request reg
  still-channel j x s e f = record { sized = sized-channel s j x f.sized; request = f.request; phase = e ∙ f.phase; slots = f.slots }

  still-level : (j : ℕ) (on : Bool) (s : State) → Still c b s → Still c b (with_level s j on)
  unfolding with_level
  still-level j on s f = still-channel j _ s (channel-keeps (λ (y : Channel). y.phase) s j _ c refl) f

  still-late : (j n : ℕ) (s : State) → Still c b s → Still c b (with_late s j n)
  unfolding with_late
  still-late j n s f = still-channel j _ s (channel-keeps (λ (y : Channel). y.phase) s j _ c refl) f

  still-set_up : (j : ℕ) (k : Timer) (s : State) → Still c b s → Still c b (with_set_up s j k)
  unfolding with_set_up
  still-set_up j k s f = still-channel j _ s (channel-keeps (λ (y : Channel). y.phase) s j _ c refl) f

  still-pins : (j : ℕ) (s : State) → Still c b s → Still c b (pins_out s j)
  unfolding pins_out pin_out
  still-pins j s f = walk-each (Still c b) (size s j) j pin_out (λ i t x y. still-pin i _ t) s f

  still-prepared : (w : Way) (m j : ℕ) (s : State) → Still c b s → Still c b (prepared w m j s)
  unfolding prepared
  still-prepared w m j s f = still-level j _ _ (still-word j 0 _ s f)

  -- what happens to another channel d
  module _ (d : ℕ) (hd : d < 16) (n : c ≢ d) where
    still-phase : (w : Way) (p : Phase) (s : State) → Still c b s → Still c b (with_phase s d w p)
    unfolding with_phase
    still-phase w p s f = still-channel d _ s (ap (λ (y : Channel). y.phase) (channel-other s d _ c n)) f

    still-request : (s : State) → Still c b s → Still c b (with_request s d 0)
    unfolding with_request with_reg channel
    still-request s f = record { sized = sized-request s d 0 f.sized; request = request-other s d 0 c hd hc n f.sized ∙ f.request; phase = f.phase; slots = f.slots }

    still-match_set : (w : Way) (t : ℕ) (s : State) → Still c b s → Still c b (match_set s d w t)
    unfolding match_set
    still-match_set w t s f = pick-cases (Still c b) (due (time_for s d) t) (λ a. still-phase w _ _ (still-pins d s f)) (λ a. still-phase w _ s f)

    still-outcome : (reference : ℕ) (o : Outcome) (s : State) → Still c b s → Still c b (outcome s d reference o)
    unfolding outcome stepped
    still-outcome reference Arrived s f = still-status d _ (still-phase _ Resting s f)
    still-outcome reference (Step w k) s f =
        still-match_set w _ _ (walk-each (Still c b) (size s d) d (prepared w (next_count w (mod_count s d))) (λ i t x y. still-prepared w _ i t) _ (still-word d 4 _ _ (still-word d 2 _ s f)))

    still-matched : (s : State) → Still c b s → Still c b (matched d s)
    still-matched s f = walk-matched (Still c b) d s (λ g time. still-phase _ _ _ (still-pins d s f)) f

    still-served : (s : State) → Still c b s → Still c b (served d s)
    unfolding initialise
    still-served s f =
        walk-served (Still c b) d s
        record {
          clears = still-request s f;
          passes = λ a e. f;
          sets-up = λ t a g. still-status d _ (still-set_up d _ _ (still-word d 0 _ _ (still-pin d _ t g)));
          moves = λ t reference o a. still-outcome reference o t;
          tells = λ t m. still-late d m t;
        }

-- ---- what waits

-- it waits, and the slots are z
record Waits (c : ℕ) (z : Slots) (s : State) : Type 0 where
  sized : Sized s
  waits : Waiting c s
  slots : s.slots ≡ z

still-waits : (c : ℕ) (z : Slots) (b s : State) → Still c b s → Waits c z b → Waits c z s
unfolding Waiting request hsrr_of
still-waits c z b s f w =
    record {
      sized = f.sized;
      waits = ⊎_elim (λ h. inl (rw f.request h)) (λ h. inr (rw f.phase h)) w.waits;
      slots = f.slots ∙ w.slots;
    }

still-refl : (c : ℕ) (s : State) → Sized s → Still c s s
still-refl c s z = record { sized = z; request = refl; phase = refl; slots = refl }

-- ---- a tick

matched-waits : (c : ℕ) (z : Slots) (u : State) (w : Way) (x m : ℕ) → c < 16 → Sized u → u.slots ≡ z → Waits c z (with_phase u c w (Matched x m))
unfolding Waiting with_phase with_channel is_matched
matched-waits c z u w x m h y q =
    let e = channel-same u c record { initialised = (channel u c).initialised; kind = (channel u c).kind; level = (channel u c).level; timer = (channel u c).timer; way = w; phase = Matched x m; late = (channel u c).late } h y in
    record { sized = sized-channel u c _ y; waits = inr (ap (λ (k : Channel). is_matched k.phase) e); slots = q }

with-slots : (c : ℕ) (u : Slots) (t : State) {z : Slots} → Waits c z t → Waits c u (with_slots t u)
unfolding Waiting with_slots channel reg
with-slots c u t w = record { sized = sized-slots t u w.sized; waits = w.waits; slots = refl }

-- its own match can only make it wait
own-matched : (c : ℕ) (z : Slots) (s : State) → c < 16 → Waits c z s → Waits c z (matched c s)
own-matched c z s h w =
    let u : Still c s (pins_out s c) = still-pins c h s c s (still-refl c s w.sized) in
    walk-matched (Waits c z) c s (λ g time. matched-waits c z (pins_out s c) _ (time_for s c) time h u.sized (u.slots ∙ w.slots)) w

waits-matched : (c : ℕ) (z : Slots) (j : ℕ) (s : State) → c < 16 → j < 16 → Waits c z s → Waits c z (matched j s)
waits-matched c z j s h l w = by (eqb c j) refl
  where
    by : (b : Bool) → eqb c j ≡ b → Waits c z (matched j s)
    by true e = subst (λ i. Waits c z (matched i s)) (eqb-true c j e) (own-matched c z s h w)
    by false e = still-waits c z s _ (still-matched c h s j l (eqb-false c j e) s (still-refl c s w.sized)) w

waits-matches : (c : ℕ) (s : State) → c < 16 → Waits c s.slots s → Waits c (ticked s.slots) (matches s)
unfolding matches clocked with_slots with_timers Waiting channel reg
waits-matches c s h w =
    walk-each (Waits c (ticked s.slots)) 16 0 matched (λ j t x y. waits-matched c (ticked s.slots) j t h (omega arith)) (clocked s)
    record { sized = sized-slots _ _ (sized-timers s _ w.sized); waits = w.waits; slots = refl }

-- a tick whose slot goes elsewhere
waits-tick : (c : ℕ) (s : State) → c < 16 → Waits c s.slots s → goes_to c (service_in s) ≡ false → Waits c (leaves (matches s).slots (service_in s)) (tick s)
waits-tick c s h w =
    let t : State = matches s in
    let m : Waits c (ticked s.slots) t = waits-matches c s h w in
    walk-own (λ o x y. o ≡ false → Waits c x y) c s (λ e. record { sized = m.sized; waits = m.waits; slots = refl }) (λ u e. absurd (not-both refl e))
    (λ d u l n e.
    still-waits c u (with_slots t u) _ (still-served c h (with_slots t u) d l n (with_slots t u) (still-refl c (with_slots t u) (sized-slots t u m.sized)))
    (with-slots c u t m))

-- ready, so that slots come to it
ready : (c l : ℕ) (t : State) → priority t c ≡ l → l ≢ 0 → Waiting c t → asks_of t l c ≡ true
unfolding asks_of wanted is_wanted Waiting request hsrr_of
ready c l t e n w =
    let z : eqb (priority t c) 0 ≡ false = ne_eqb (priority t c) 0 (λ q. n (sym e ∙ q)) in
    rw (eq-eqb (priority t c) l e, z) (⊎_elim (λ h. rw (le-leb 2 (request t c) h)) (λ h. rw h (pick-cases (λ b. b ≡ true) (leb 2 (request t c)) (λ a. refl) (λ a. refl))) w)

falls : (c l : ℕ) (s : State) → c < 16 → l ≢ 0 → priority s c ≡ l → Waits c s.slots s
    → (goes_to c (service_in s) ≡ true) ⊎ (suc (patience (leaves (matches s).slots (service_in s)) l c) ≤ patience s.slots l c)
unfolding service_in slots.next service_of
falls c l s h n e w =
    let t : State = matches s in
    let m : Waits c (ticked s.slots) t = waits-matches c s h w in
    let k : l ≤ 3 = subst (λ x. x ≤ 3) e (priority-small s c) in
    subst (λ x. (goes_to c (chosen x (asks_of t)) ≡ true) ⊎ (suc (patience (leaves x (chosen x (asks_of t))) l c) ≤ patience s.slots l c)) (sym m.slots)
    (one-service.falls s.slots (asks_of t) l c record { channel = h; least = some l n; most = k } (ready c l t (priority-matches c s ∙ e) n m.waits))

-- ---- a write

waits-reg : (c : ℕ) (z : Slots) (i x : ℕ) (s : State) → c < 16 → (i < 7) ⊎ (8 < i) → Waits c z s → Waits c z (with_reg s i x)
unfolding with_reg channel request
waits-reg c z i x s h o w =
    still-waits c z s (with_reg s i x)
    record { sized = sized-reg s i x w.sized; request = ap (λ r. field 2 r (2 * (c % 8))) (reg-other s i x (hsrr_of c) (apart o)); phase = refl; slots = refl } w
  where
    apart : (i < 7) ⊎ (8 < i) → hsrr_of c ≢ i
    apart o e = ⊎_elim (λ l. omega (arith, hsrr-range c)) (λ l. omega (arith, hsrr-range c)) o

waits-stored : (c : ℕ) (z : Slots) (at v : ℕ) (s : State) → c < 16 → Waits c z s → Waits c z (stored s at v)
unfolding stored with_initialised
waits-stored c z at v s h w =
    let f : Still c s (with_word s (at / 8) (at % 8) v) = still-word c h s (at / 8) (at % 8) v s (still-refl c s w.sized) in
    pick-cases (Waits c z) (eqb (at % 8) 0)
    (λ a. still-waits c z s _ (still-channel c h s (at / 8) _ _ (channel-keeps (λ (y : Channel). y.phase) _ (at / 8) _ c refl) f) w)
    (λ a. still-waits c z s _ f w)

asked-own : (c : ℕ) (z : Slots) (r : ℕ) (s : State) → 2 ≤ r → r < 4 → Sized s → s.slots ≡ z → Waits c z (with_request s c r)
unfolding Waiting request hsrr_of with_request with_reg
asked-own c z r s l m y q = record { sized = sized-request s c r y; waits = inl (rw (request-same s c r m y) l); slots = q }

asked-other : (c : ℕ) (z : Slots) (j r : ℕ) (s : State) → c < 16 → j < 16 → c ≢ j → Waits c z s → Waits c z (with_request s j r)
unfolding with_request with_reg channel
asked-other c z j r s h l n w =
    still-waits c z s _ record { sized = sized-request s j r w.sized; request = request-other s j r c l h n w.sized; phase = refl; slots = refl } w

bound-other : (c : ℕ) (z : Slots) (j : ℕ) (s : State) → c < 16 → c ≢ j → Waits c z s → Waits c z (with_binding s j)
unfolding with_binding
bound-other c z j s h n w =
    still-waits c z s _ (still-channel c h s j _ s (ap (λ (y : Channel). y.phase) (channel-other s j _ c n)) (still-refl c s w.sized)) w

binding-slots : (s : State) (c : ℕ) → (with_binding s c).slots ≡ s.slots
unfolding with_binding with_channel
binding-slots s c = refl

waits-requested : (c : ℕ) (z : Slots) (j r : ℕ) (s : State) → c < 16 → j < 16 → Waits c z s → Waits c z (requested s j r)
unfolding requested
waits-requested c z j r s h l w = by (eqb c j) refl
  where
    own : Sized (pick (stepping s c) s (with_binding s c)) × ((pick (stepping s c) s (with_binding s c)).slots ≡ z)
    own = pick-cases (λ (x : State). Sized x × (x.slots ≡ z)) (stepping s c) (λ a. (w.sized, w.slots)) (λ a. (sized-binding s c w.sized, binding-slots s c ∙ w.slots))

    by : (b : Bool) → eqb c j ≡ b → Waits c z (requested s j r)
    by true e =
        subst (λ i. Waits c z (requested s i r)) (eqb-true c j e)
        (pick-cases (Waits c z) (eqb r 2) (λ a. asked-own c z 2 s (omega arith) (omega arith) w.sized w.slots)
        (λ a. pick-cases (Waits c z) (eqb r 3) (λ d. asked-own c z 3 _ (omega arith) (omega arith) own.0 own.1) (λ d. w)))
    by false e =
        let n : c ≢ j = eqb-false c j e in
        pick-cases (Waits c z) (eqb r 2) (λ a. asked-other c z j 2 s h l n w)
        (λ a. pick-cases (Waits c z) (eqb r 3) (λ d. asked-other c z j 3 _ h l n (pick-cases (Waits c z) (stepping s j) (λ t. w) (λ t. bound-other c z j s h n w))) (λ d. w))

waits-requests : (c : ℕ) (z : Slots) (n a v : ℕ) (s : State) → c < 16 → a + n ≤ 16 → Waits c z s → Waits c z (each n a (requested_one v) s)
unfolding each requested_one
waits-requests c z zero a v s h l w = w
waits-requests c z (suc n) a v s h l w = waits-requested c z (a + n) _ (each n a (requested_one v) s) h (omega arith) (waits-requests c z n a v s h (omega arith) w)

waits-place : (c : ℕ) (z : Slots) (s : State) (p : Place) (v : ℕ) → c < 16 → Waits c z s → PlaceGood p → IfTaken (Waits c z) s (ask_place s p v)
waits-place c z s p v h w g =
    walk-place (Waits c z) s p v
    (λ i e l. record {
      keep = λ q. waits-reg c z cisr _ s h (inr (omega arith)) w;
      plain = λ q m n. waits-reg c z i v s h n w;
      functions = λ a b q. waits-reg c z i v s h (inl (omega arith)) w;
      requests = λ a b. word-yes (Waits c z) 8 _ v s (waits-requests c z 8 (8 * (8 - i)) v s h (omega arith) w);
    })
    (λ d i e m l. record { missing = λ x. w; target = λ q k n. waits-stored c z _ v s h w; free = λ q. waits-stored c z _ v s h w })
    g

waits-write : (c : ℕ) (z : Slots) (a v : ℕ) (s : State) → c < 16 → Waits c z s → Waits c z (write_of s a v).state
unfolding write_of
waits-write c z a v s h w = rw (gate-place s a v) (taken-answer (Waits c z) s (ask_place s (place a) v) w (waits-place c z s (place a) v h w (place-good a)))

-- ---- lists of acts

-- one tick: its slot goes to c, or fewer can pass it over from then on
turn-tick : (c l : ℕ) (s : State) (xs : List Act) → c < 16 → l ≢ 0 → priority s c ≡ l → Waits c s.slots s → (b : Bool) → goes_to c (service_in s) ≡ b
    → (b ≡ false → Waits c (tick s).slots (tick s) → suc (patience (tick s).slots l c) ≤ ticks_of xs → turn_in c (tick s) xs ≤ suc (patience (tick s).slots l c))
    → suc (patience s.slots l c) ≤ suc (ticks_of xs) → turn_in c s (Ticks ∷ xs) ≤ suc (patience s.slots l c)
unfolding turn_in
turn-tick c l s xs h n e w true o more k = rw o (omega arith)
turn-tick c l s xs h n e w false o more k =
    let y : Waits c (leaves (matches s).slots (service_in s)) (tick s) = waits-tick c s h w o in
    let x : (tick s).slots ≡ leaves (matches s).slots (service_in s) = y.slots in
    let u : Waits c (tick s).slots (tick s) = record { sized = y.sized; waits = y.waits; slots = refl } in
    ⊎_elim (λ z. absurd (not-both z o))
    (λ (z : suc (patience (leaves (matches s).slots (service_in s)) l c) ≤ patience s.slots l c).
    let f : suc (patience (tick s).slots l c) ≤ patience s.slots l c = rw x z in
    rw o (omega (arith, f, more refl u (omega (arith, f)))))
    (falls c l s h n e w)

turn_by : (c l : ℕ) (s : State) (xs : List Act) → c < 16 → l ≢ 0 → Waits c s.slots s → AtLevel l c s xs → suc (patience s.slots l c) ≤ ticks_of xs
    → turn_in c s xs ≤ suc (patience s.slots l c)
unfolding AtLevel priority_of priority cpr_of ticks_of turn_in does
turn_by c l s [] h n w a k = absurd (omega arith)
turn_by c l s (Ticks ∷ xs) h n w a k =
    turn-tick c l s xs h n a.0 w (goes_to c (service_in s)) refl (λ o u. turn_by c l (tick s) xs h n u a.1) k
turn_by c l s (Writes x v ∷ xs) h n w a k =
    let t : State = (write_of s x v).state in
    let y : Waits c s.slots t = waits-write c s.slots x v s h w in
    subst (λ z. turn_in c t xs ≤ suc (patience z l c)) y.slots
    (turn_by c l t xs h n record { sized = y.sized; waits = y.waits; slots = refl } a (rw y.slots k))
turn_by c l s (Nothing ∷ xs) h n w a k = turn_by c l s xs h n w a k

pub served-within : ServedWithin
served-within calls s x xs c l h n w a k =
    let y : Waits c s.slots s = record { sized = (state-fine calls s x).sized; waits = w; slots = refl } in
    omega (arith, one-service.bounded s.slots l c, turn_by c l s xs h n y a (omega (arith, one-service.bounded s.slots l c)))
  where
    state-fine : (calls : List Call) (s : State) → StateOf calls s → Fine s
    state-fine calls s x = (state-good calls s x).0
