-- Each tick of a run is one step as document 01 says, in every channel of the group, or leaves them alone.
use Prim.Native.Nat.{ℕ, ◌+◌, ◌*◌, ◌≤◌, ◌<◌}
use native.Mathlib.Omega.{arith}
use native.Mathlib.Nat.{mod-eq_of_lt}
use mathlib.Core.Bool.{Bool, true, false}
use mathlib.Core.List.{List, [], ◌∷◌}
use mathlib.Core.Path.{◌≡◌, refl, ap, sym, subst, ◌∙◌}
use mathlib.Core.Logic.{◌≢◌, ◌⊎◌, inl, inr, ⊎_elim}
use lib.Dec.{eqb}
use borrow.Author.Tests.{eq-eqb, ne_eqb}
use Rattle.words.specs.Choice.{pick}
use Rattle.words.proofs.ChoiceLaws.{not-both, pick-cases}
use Rattle.words.specs.declared.Timer.{Timer}
use Rattle.words.specs.declared.Timer.TheVariants.{Tcr1, Tcr2}
use Rattle.words.specs.declared.Timers.{Timers}
use Rattle.words.specs.Clock.{since, due, later, time_by}
use Rattle.words.specs.Field.{field, with_field, bit_of}
use Rattle.words.proofs.FieldLaws.{field-set, field-above}
use Rattle.words.proofs.RotationLaws.{right-bit, left-bit}
use Rattle.motor.specs.declared.Way.{Way}
use Rattle.motor.specs.declared.Way.TheVariants.{Right, Left}
use Rattle.motor.specs.declared.Motor.{Motor}
use Rattle.motor.specs.declared.Phase.{Phase}
use Rattle.motor.specs.declared.Phase.TheVariants.{Resting, Requested, Armed, Matched}
use Rattle.motor.specs.declared.Outcome.{Outcome}
use Rattle.motor.specs.declared.Outcome.TheVariants.{Arrived, Step}
use Rattle.motor.specs.Stepping.{period, ahead, on_request, on_match, moved}
use Rattle.motor.specs.Track.{NextTo, Valid, Serves}
use Rattle.motor.specs.Group.{Group, armed, happened, SlowAtFirst, time_set}
use Rattle.motor.specs.Group as group
use Rattle.motor.specs.Count.{Running}
use Rattle.motor.specs.SlowMoves.{Pace}
use Rattle.motor.proofs.Decided.{request-decides, match-decides}
use Rattle.motor.proofs.OneStep.{one-step}
use Rattle.motor.proofs.OneTick.{happened-requested, period-bounds}
use Rattle.unit.specs.declared.State.{State}
use Rattle.unit.specs.TheUnit.{cpr_of, time_for, pin, channel, word, channel_control, pin_control, position, target, mod_count, next_rate, top, last, cntl0, cntl1, priority, motor_of}
use Rattle.unit.specs.Stepping.{next_count, turned_once}
use Rattle.unit.specs.OneTick.{tick}
use Rattle.history.specs.Moments.{Act, Ticks, Writes, Nothing as nothing, does, priority_of, moments}
use Rattle.history.specs.OneStep.{is_past, shown_by, clock_of, acts_at, unserved, is_pending, pin_after_match, Enabled, IsServed, places_ahead, Sets, GoesOn, CountMoves, BitsTurn, top_bit, ChannelSteps, MatchIs, StepIs, ChannelKeeps, StillIs, WholeSteps}
use Rattle.unit.proofs.Access.{mod-small}
use Rattle.unit.proofs.Passing.{time_next, tick-timers, time-passes}
use Rattle.history.proofs.Look.{look}
use Rattle.history.proofs.Own.{View, view_in, group_in, view}
use Rattle.history.proofs.Ticks.{patience_in, ours, slots_after, view_ticked, view-tick, view-matches}
use Rattle.slots.specs.Slots as slots
use Rattle.history.proofs.Held.{Held}
use Rattle.history.proofs.Fine.{Fine, small_word}
use Rattle.history.proofs.Alone.{fades-tick}
use Rattle.history.proofs.Parts.{clocked-part, Part, part, show_part, outcome_part, due_at_once, phase_part, part-tick}
use Rattle.history.proofs.Chain.{Ahead, ours-level, acts, running-held}
use Rattle.history.proofs.Calls.{Words, fine-write}
use Rattle.history.proofs.Fine.{fine-tick}

-- ---- a part that a step has turned, in bits and numbers

bits-turn : (w : Way) (x : ℕ) → x ≤ 0xffff → BitsTurn w x (turned_once w x)
unfolding BitsTurn turned_once
bits-turn Right x h = λ i l. right-bit x 1 i (omega arith) (omega arith) l
bits-turn Left x h = λ i l. left-bit x 1 i (omega arith) (omega arith) l

top-turn : (w : Way) (x : ℕ) → x ≤ 0xffff → bit_of (turned_once w x) 15 ≡ bit_of x (top_bit w)
unfolding bit_of top_bit turned_once
top-turn Right x h = ap (λ y. eqb y 1) (right-bit x 1 15 (omega arith) (omega arith) (omega arith))
top-turn Left x h = ap (λ y. eqb y 1) (left-bit x 1 14 (omega arith) (omega arith) (omega arith))

count-moves : (w : Way) (m : ℕ) → m < 16 → CountMoves w m (next_count w m)
unfolding CountMoves next_count
count-moves Right m h = refl
count-moves Left m h = (omega arith, omega arith)

pub count_small : (w : Way) (m : ℕ) → next_count w m < 16
unfolding next_count
count_small Right m = omega arith
count_small Left m = omega arith

-- word 4 after a step: MOD_CNT stands where it stood
pub count-stands : (w4 m k : ℕ) → m < 16 → field 4 (with_field 4 (with_field 4 w4 8 m) 0 k) 8 ≡ m
count-stands w4 m k h = field-above 4 (with_field 4 w4 8 m) 0 k 4 8 (omega arith) ∙ field-set 4 w4 8 m ∙ mod-eq_of_lt h

-- the count and each channel of the group, where each part has been turned
module _ (c : ℕ) (s t : State) (f : Fine s) (w : Way) (k : ℕ) (acted already : Bool) where
  counted : part c c t ≡ outcome_part already (Step w k) (show_part acted (part c c s)) → mod_count t c ≡ next_count w (mod_count s c)
  unfolding part outcome_part show_part mod_count
  counted e = ap (λ (q : Part). field 4 q.fourth 8) e ∙ count-stands (word s c 4) (next_count w (field 4 (word s c 4) 8)) k (count_small w (field 4 (word s c 4) 8))

  channel-steps : (j x : ℕ) → mod_count t c ≡ next_count w (mod_count s c) → is_past (clock_of c t) x ≡ already → acts_at (channel s c).phase (clock_of c t) ≡ acted
      → part c j t ≡ outcome_part already (Step w k) (show_part acted (part c j s)) → ChannelSteps w x c j s t
  unfolding part outcome_part show_part channel_control pin_control mod_count pin_after_match
  channel-steps j x m p q e =
      record {
        source = ap (λ (q : Part). q.source) e;
        turned = λ n. subst (BitsTurn w (word s j 0)) (sym (ap (λ (q : Part). q.control) e ∙ rw (ne_eqb (next_count w (field 4 (word s c 4) 8)) 0 (λ z. n (m ∙ z))) refl)) (bits-turn w (word s j 0) (small_word s j 0 f));
        copied = λ n. ap (λ (q : Part). q.control) e ∙ rw (eq-eqb (next_count w (field 4 (word s c 4) 8)) 0 (sym m ∙ n)) refl;
        level = ap (λ (q : Part). q.level) e ∙ top-turn w (word s j 0) (small_word s j 0 f);
        pin = ap (λ (y : Part). y.pin) e ∙ (λ i. pick (sym p i) (sym (ap (λ (y : Part). y.level) e) i) (pick (sym q i) (channel s j).level (pin s j)));
      }

-- ---- a tick of a held primary

-- where a step comes from, and at which next rate it leaves the motor
record From (c : ℕ) (s t : State) (reference : ℕ) (w : Way) (k : ℕ) : Type 0 where
  from : (((channel s c).phase ≡ Requested) × (reference ≡ clock_of c t) × Sets w c s) ⊎ ((unserved (channel s c).phase (clock_of c t) ≡ Matched reference (time_set (channel s c).phase)) × GoesOn w c s)
  pace : Pace (top s c) (places_ahead w c s) (next_rate s c) k

ahead-is : (w : Way) (c : ℕ) (s : State) → ahead w (motor_of s c) ≡ places_ahead w c s
unfolding ahead places_ahead motor_of
ahead-is Right c s = refl
ahead-is Left c s = refl

-- the time of a group, in this crate's own words and in crate unit's
shown-is : (k : Timer) (t : Timers) → shown_by k t ≡ time_by k t
unfolding shown_by time_by
shown-is Tcr1 t = refl
shown-is Tcr2 t = refl

pub clock-is : (c : ℕ) (s : State) → clock_of c s ≡ time_for s c
unfolding clock_of
clock-is c s = shown-is (channel s c).timer s.timers

-- the phase after the matches, in this crate's own words and in crate motor's
pub unserved-is : (p : Phase) (now : ℕ) → happened now p ≡ unserved p now
unfolding happened armed unserved is_past due since
unserved-is Resting now = refl
unserved-is Requested now = refl
unserved-is (Armed time) now = refl
unserved-is (Matched captured time) now = refl

-- a match that happens stays one for its time
pub set-stays : (p : Phase) (now : ℕ) → time_set (happened now p) ≡ time_set p
unfolding happened armed time_set
set-stays Resting now = refl
set-stays Requested now = refl
set-stays (Armed time) now = pick-cases (λ p. time_set p ≡ time) (due now time) (λ a. refl) (λ a. refl)
set-stays (Matched captured time) now = refl

pub on-enabled : (c : ℕ) (s : State) → ours c s ≡ true → Enabled c s
unfolding priority Enabled priority_of cpr_of
on-enabled c s z = ours-level c s z

module _ (c : ℕ) (s : State) (h : Held c s) (f : Fine s) where
  abbrev t : State
  t = tick s

  abbrev g : Group
  g = (view s c).group

  -- the patience that the tick leaves
  abbrev q : ℕ → ℕ
  q = patience_in (slots_after s) c

  time : clock_of c t ≡ time_next s c
  time = clock-is c t ∙ ap (λ k. time_by k t.timers) (time-passes.named s c) ∙ ap (time_by (channel s c).timer) (tick-timers s)

  pub ticked : (view t c).group ≡ group.tick (ours c s) q g
  unfolding view_ticked
  ticked = ap (λ (v : View). v.group) (view-tick c s h.sized f.going h.seen)

  abbrev acted : Bool
  acted = acts_at (channel s c).phase (time_next s c)

  acted-then : acts_at (channel s c).phase (clock_of c t) ≡ acted
  acted-then = ap (acts_at (channel s c).phase) time

  abbrev Ticked : Type 0
  Ticked = StepIs c s t ⊎ StillIs c s t

  -- a tick that leaves the motor, and each channel's part
  keeps : (j : ℕ) → part c j t ≡ show_part acted (part c j s) → ChannelKeeps c j s t
  unfolding part show_part channel_control pin_control pin_after_match
  keeps j e = record { pin = ap (λ (q : Part). q.pin) e ∙ ap (λ b. pick b (channel s j).level (pin s j)) (sym acted-then); control = ap (λ (q : Part). q.control) e; source = ap (λ (q : Part). q.source) e; level = ap (λ (q : Part). q.level) e }

  still : (x : Group) → (view t c).group ≡ x → x.motor ≡ g.motor → ((x.phase ≡ happened (time_next s c) (channel s c).phase) × (IsServed c s → is_pending x.phase ≡ false)) ⊎ ((x.phase ≡ Resting) × (position s c ≡ target s c) × Enabled c s × IsServed c s)
      → ((j : ℕ) → c ≤ j → j ≤ last s c → part c j t ≡ show_part acted (part c j s)) → Ticked
  unfolding view view_in group_in look position target part show_part
  still x e m p parts =
      let q : (view t c).group.motor ≡ g.motor = ap (λ (y : Group). y.motor) e ∙ m in
      let z : (channel t c).phase ≡ x.phase = ap (λ (y : Group). y.phase) e in
      inr
      record {
        place = ap (λ (y : Motor). y.position) q;
        faces = ap (λ (y : Motor). y.way) q;
        timer = time-passes.named s c;
        rates = ap (λ (y : Part). y.fourth) (parts c (omega arith) h.alone.spans);
        aim = ap (λ (y : Motor). y.target) q;
        span = (fades-tick s f.sized f.going).spans c;
        phase = ⊎_elim
            (λ y. inl (
              z ∙ y.0 ∙ ap (λ n. happened n (channel s c).phase) (sym time) ∙ unserved-is (channel s c).phase (clock_of c t),
              λ o. ap is_pending z ∙ y.1 o,
            ))
            (λ y. inr (z ∙ y.0, y.1, y.2, y.3)) p;
        channels = λ j a b. keeps j (parts j a b);
      }

  -- a tick in which nothing of c is served
  idle : (IsServed c s → is_pending (happened (time_next s c) (channel s c).phase) ≡ false) → (view t c).group ≡ group.clocked q g → ((j : ℕ) → c ≤ j → j ≤ last s c → part c j t ≡ show_part acted (part c j s)) → Ticked
  unfolding view view_in group_in look group.clocked
  idle n e parts = still (group.clocked q g) e refl (inl (refl, n)) parts

  -- P of the present rate is at least 128
  some-period : cntl0 s c * (1 + next_rate s c) + 128 ≤ cntl1 s c
  unfolding view view_in group_in look cntl0 cntl1 next_rate top motor_of period
  some-period =
      let v : Valid g.motor = h.seen.sound.valid in
      let n : 128 ≤ period (cntl0 s c) (cntl1 s c) (top s c) = h.seen.sound.shortest in
      omega (arith, (period-bounds (cntl0 s c) (cntl1 s c) (next_rate s c) (top s c) v.least v.most (omega arith)).0)

  match_is : (reference : ℕ) (w : Way) (k : ℕ) → (view t c).group ≡ group.outcome (group.clocked q g) reference (Step w k) → MatchIs c reference s t
  unfolding view view_in group_in look group.clocked group.outcome cntl0 cntl1 next_rate armed later period is_past due since
  match_is reference w k e =
      let x : ℕ = later reference (period (cntl0 s c) (cntl1 s c) (next_rate s c)) in
      let p : (channel t c).phase ≡ armed (clock_of c t) x = ap (λ (y : Group). y.phase) e ∙ ap (λ y. armed y x) (sym time) in
      record { time = x; some = some-period; sum = refl; set = λ q. p ∙ rw q refl; happens = λ q. p ∙ rw q refl }

  step_by : Enabled c s → IsServed c s → (reference : ℕ) (o : Outcome) → ((w : Way) (k : ℕ) → o ≡ Step w k → From c s t reference w k) → (view t c).group ≡ group.outcome (group.clocked q g) reference o
      → ((j : ℕ) → c ≤ j → j ≤ last s c → part c j t ≡ outcome_part (due_at_once (group.clocked q g) reference) o (show_part acted (part c j s))) → Serves (motor_of s c) o → Ticked
  unfolding Serves group.outcome group.clocked view view_in group_in look moved motor_of position target next_rate top outcome_part due_at_once match_is cntl0 cntl1 is_past due since
  step_by on slot reference Arrived fr e parts d = still (group.outcome (group.clocked q g) reference Arrived) e refl (inr (refl, d.reached, on, slot)) parts
  step_by on slot reference (Step w k) fr e parts d =
      let x : ℕ = later reference (period (cntl0 s c) (cntl1 s c) (next_rate s c)) in
      let m : mod_count t c ≡ next_count w (mod_count s c) = counted c s t f w k acted (due_at_once (group.clocked q g) reference) (parts c (omega arith) h.alone.spans) in
      inl
      record {
        slot = slot;
        on = on;
        way = w;
        reference = reference;
        from = (fr w k refl).from;
        place = subst (NextTo w (position s c)) (sym (ap (λ (x : Group). x.motor.position) e)) d.next;
        faces = ap (λ (x : Group). x.motor.way) e;
        timer = time-passes.named s c;
        rate = subst (Pace (top s c) (places_ahead w c s) (next_rate s c)) (sym (ap (λ (x : Group). x.motor.rate) e)) (fr w k refl).pace;
        count = subst (CountMoves w (mod_count s c)) (sym m) (count-moves w (mod_count s c) (mod-small s c));
        aim = ap (λ (x : Group). x.motor.target) e;
        span = (fades-tick s f.sized f.going).spans c;
        match = match_is reference w k e;
        channels = λ j a b. channel-steps c s t f w k acted (due_at_once (group.clocked q g) reference) j x m (ap (λ y. is_past y x) time) acted-then (parts j a b);
      }

  valid : Valid (motor_of s c)
  unfolding view view_in group_in look motor_of position target next_rate top
  valid = h.seen.sound.valid

  slow : (channel s c).phase ≡ Requested → (motor_of s c).rate ≡ 1
  unfolding view view_in group_in look motor_of next_rate SlowAtFirst
  slow r = subst (λ p. SlowAtFirst p (next_rate s c)) r h.seen.sound.slow

  by-request : (w : Way) (k : ℕ) → (channel s c).phase ≡ Requested → on_request (motor_of s c) ≡ Step w k → From c s t (time_next s c) w k
  unfolding Sets motor_of
  by-request w k r e =
      let d = request-decides w (motor_of s c) k valid.least e in
      record { from = inl (r, sym time, subst (λ n. 1 ≤ n) (ahead-is w c s) d.0); pace = subst (λ n. Pace (top s c) n (next_rate s c) k) (ahead-is w c s) d.1 }

  by-match : (x m : ℕ) (w : Way) (k : ℕ) → happened (time_next s c) (channel s c).phase ≡ Matched x m → on_match (motor_of s c) ≡ Step w k → From c s t x w k
  unfolding GoesOn motor_of time_set
  by-match x m w k q e =
      let d = match-decides w (motor_of s c) k valid.least e in
      record {
        from = inr (sym (unserved-is (channel s c).phase (clock_of c t)) ∙ ap (λ y. happened y (channel s c).phase) time ∙ q ∙ ap (Matched x) (sym (ap time_set q) ∙ set-stays (channel s c).phase (time_next s c)), subst Continued (ahead-is w c s) d.0);
        pace = subst (λ n. Pace (top s c) n (next_rate s c) k) (ahead-is w c s) d.1;
      }
    where
      Continued : ℕ → Type 0
      Continued n = (((channel s c).way ≡ w) × ((1 ≤ n) ⊎ (2 ≤ next_rate s c))) ⊎ (((channel s c).way ≢ w) × (next_rate s c ≡ 1) × (1 ≤ n))

  -- by what is pending after the matches
  step-phase : Enabled c s → IsServed c s → (p : Phase) → happened (time_next s c) (channel s c).phase ≡ p → (view t c).group ≡ group.serve p (group.clocked q g)
      → ((j : ℕ) → c ≤ j → j ≤ last s c → part c j t ≡ phase_part p (group.clocked q g) (show_part acted (part c j s))) → Ticked
  unfolding group.serve phase_part group.clocked view view_in group_in look motor_of position target next_rate top is_pending
  step-phase on slot Resting x e parts = idle (λ o. ap is_pending x) e parts
  step-phase on slot Requested x e parts =
      let r : (channel s c).phase ≡ Requested = happened-requested _ (channel s c).phase x in
      step_by on slot (time_next s c) (on_request (motor_of s c)) (λ w k o. by-request w k r o) e parts (one-step.on-request (motor_of s c) valid (slow r))
  step-phase on slot (Armed y) x e parts = idle (λ o. ap is_pending x) e parts
  step-phase on slot (Matched y m) x e parts =
      step_by on slot y (on_match (motor_of s c)) (λ w k o. by-match y m w k x o) e parts (one-step.on-match (motor_of s c) valid)

  -- the part of each channel, by the view after the matches
  pub parts-turned : (j : ℕ) → c ≤ j → j ≤ last s c
      → part c j t ≡ pick (ours c s) (phase_part (happened (time_next s c) (channel s c).phase) (group.clocked q g) (show_part acted (part c j s))) (show_part acted (part c j s))
  unfolding view view_in group_in look motor_of position target next_rate top group.clocked
  parts-turned j a b =
      part-tick c j s h a b
      ∙ ap (λ (v : View). pick (ours c s) (phase_part v.group.phase v.group (show_part acted (part c j s))) (show_part acted (part c j s))) (view-matches c s h.sized f.going h.seen)
      ∙ ap (λ x. pick (ours c s) x (show_part acted (part c j s))) (clocked-part (happened (time_next s c) (channel s c).phase) (patience_in (slots.ticked s.slots) c) q g (show_part acted (part c j s)))

  pub tick_is : Ticked
  unfolding group.tick group.clocked view view_in group_in look ours IsServed
  tick_is = by (ours c s) refl ticked parts-turned
    where
      by : (b : Bool) → ours c s ≡ b → (view t c).group ≡ pick b (group.serve (happened (time_next s c) (channel s c).phase) (group.clocked q g)) (group.clocked q g)
          → ((j : ℕ) → c ≤ j → j ≤ last s c → part c j t ≡ pick b (phase_part (happened (time_next s c) (channel s c).phase) (group.clocked q g) (show_part acted (part c j s))) (show_part acted (part c j s))) → Ticked
      by true z e k = step-phase (on-enabled c s z) z (happened (time_next s c) (channel s c).phase) refl e k
      by false z e k = idle (λ o. absurd (not-both o z)) e k

pub whole-steps : (c : ℕ) (xs : List Act) (s : State) → Ahead c s → Fine s → Words xs → Running (moments c s xs) → WholeSteps c s xs
unfolding moments Running WholeSteps Words does
whole-steps c [] s a f w r = tt
whole-steps c (Ticks ∷ xs) s a f w r =
    let h : Held c s = running-held c s a r.0 in
    (tick_is c s h f, whole-steps c xs (tick s) (acts c Ticks s h).ahead (fine-tick s f) w r.1)
whole-steps c (Writes x v ∷ xs) s a f w r =
    whole-steps c xs (does (Writes x v) s) (acts c (Writes x v) s (running-held c s a r.0)).ahead (fine-write x v s w.0 f) w.1 r.1
whole-steps c (nothing ∷ xs) s a f w r = whole-steps c xs s a f w r.1
