-- What a match, a step and a service leave alone, and the timers and the registers in a tick: `time-passes`.
use Prim.Native.Nat.{ℕ, zero, suc, ◌+◌, ◌/◌, ◌%◌, ◌≤◌}
use native.Mathlib.Omega.{arith}
use mathlib.Core.Bool.{Bool}
use mathlib.Core.Logic.{◌≢◌}
use mathlib.Core.Path.{◌≡◌, refl, sym, ap, ◌∙◌}
use lib.Dec.{eqb}
use lib.ListN.{get_or, length, length-set}
use Rattle.std.specs.Prelude.{Option, Some, None}
use Rattle.words.specs.declared.Timers.{Timers}
use Rattle.words.specs.Clock.{due, later, time_by, onward}
use Rattle.words.proofs.ChoiceLaws.{pick-cases}
use Rattle.words.proofs.ClockLaws.{onward-add}
use Rattle.slots.specs.declared.Slots.{Slots}
use Rattle.slots.specs.declared.Service.{Service}
use Rattle.slots.specs.Slots.{ticked}
use Rattle.slots.proofs.Within.{one-service}
use Rattle.motor.specs.declared.Way.{Way}
use Rattle.motor.specs.declared.Phase.{Phase}
use Rattle.motor.specs.declared.Phase.TheVariants.{Resting, Requested, Armed, Matched}
use Rattle.motor.specs.declared.Outcome.{Outcome}
use Rattle.motor.specs.declared.Outcome.TheVariants.{Arrived, Step}
use Rattle.unit.specs.declared.State.{State}
use Rattle.unit.specs.declared.Channel.{Channel}
use Rattle.unit.specs.TheUnit.{cisr, hsrr_of, reg, with_reg, with_timers, with_pins, with_channel, with_words, each, request, with_request, with_slots, with_status, with_pin, channel, with_set_up, with_level, with_phase, with_late, time_for, with_word, mod_count, size}
use Rattle.unit.specs.Stepping.{pin_out, pins_out, next_count, prepared, match_set, stepped, outcome}
use Rattle.unit.specs.OneTick.{match_of, matched, initialise, step_request, request_served, match_served, served, slot_served, clocked, matches, service_in, tick, after_ticks}
use Rattle.unit.specs.Pending.{asks_of}
use Rattle.unit.specs.Passing.{TimePasses}
use Rattle.unit.proofs.Access.{channel-keeps, reg-other, hsrr-range}

-- ---- a match and a step leave the registers, the timers, the slots, the timer that the record of a group names, and how late each
-- service was

pub record Left (s t : State) : Type 0 where
  pub regs : t.regs ≡ s.regs
  pub time : t.timers ≡ s.timers
  pub slots : t.slots ≡ s.slots
  pub named : (c : ℕ) → (channel t c).timer ≡ (channel s c).timer
  pub late : (c : ℕ) → (channel t c).late ≡ (channel s c).late
  pub room : length t.channels ≡ length s.channels

left-all : (s : State) → Left s s
left-all s = record { regs = refl; time = refl; slots = refl; named = λ c. refl; late = λ c. refl; room = refl }

left-then : {s t u : State} → Left s t → Left t u → Left s u
left-then x y =
    record {
      regs = y.regs ∙ x.regs;
      time = y.time ∙ x.time;
      slots = y.slots ∙ x.slots;
      named = λ c. y.named c ∙ x.named c;
      late = λ c. y.late c ∙ x.late c;
      room = y.room ∙ x.room;
    }

-- what is kept of a channel, with the same timer named and the same number
left-channel : (s : State) (c : ℕ) (x : Channel) → x.timer ≡ (channel s c).timer → x.late ≡ (channel s c).late → Left s (with_channel s c x)
unfolding with_channel
left-channel s c x e l =
    record {
      regs = refl;
      time = refl;
      slots = refl;
      named = λ j. channel-keeps (λ (y : Channel). y.timer) s c x j e;
      late = λ j. channel-keeps (λ (y : Channel). y.late) s c x j l;
      room = simp length-set refl;
    }

pub left-each : (n a : ℕ) (f : ℕ → State → State) → ((i : ℕ) (t : State) → Left t (f i t)) → (s : State) → Left s (each n a f s)
unfolding each
left-each zero a f h s = left-all s
left-each (suc n) a f h s = left-then (left-each n a f h s) (h (a + n) (each n a f s))

left-pin : (s : State) (c : ℕ) (on : Bool) → Left s (with_pin s c on)
unfolding with_pin with_pins channel
left-pin s c on = record { regs = refl; time = refl; slots = refl; named = λ j. refl; late = λ j. refl; room = refl }

left-pins : (s : State) (i : ℕ) → Left s (pins_out s i)
unfolding pins_out pin_out
left-pins s i = left-each (size s i) i pin_out (λ k t. left-pin t k _) s

left-match_set : (s : State) (i : ℕ) (w : Way) (t : ℕ) → Left s (match_set s i w t)
unfolding match_set with_phase
left-match_set s i w t =
    pick-cases (Left s) (due (time_for s i) t) (λ a. left-then (left-pins s i) (left-channel (pins_out s i) i _ refl refl)) (λ a. left-channel s i _ refl refl)

left_word : (s : State) (c i v : ℕ) → Left s (with_word s c i v)
unfolding with_word with_words channel
left_word s c i v = record { regs = refl; time = refl; slots = refl; named = λ j. refl; late = λ j. refl; room = refl }

left-prepared : (w : Way) (m j : ℕ) (s : State) → Left s (prepared w m j s)
unfolding prepared with_level
left-prepared w m j s = left-then (left_word s j 0 _) (left-channel _ j _ refl refl)

pub left_step : (s : State) (i reference : ℕ) (w : Way) (k : ℕ) → Left s (stepped s i reference w k)
unfolding stepped
left_step s i reference w k =
    let m : ℕ = next_count w (mod_count s i) in
    left-then (left-then (left_word s i 2 _) (left_word _ i 4 _))
    (left-then (left-each (size s i) i (prepared w m) (left-prepared w m) _) (left-match_set _ i w _))

pub left-matched : (i : ℕ) (s : State) → Left s (matched i s)
unfolding matched match_of with_phase
left-matched i s = by (channel s i).phase
  where
    by : (p : Phase) → Left s (match_of p i s)
    by Resting = left-all s
    by Requested = left-all s
    by (Armed t) = pick-cases (Left s) (due (time_for s i) t) (λ a. left-then (left-pins s i) (left-channel (pins_out s i) i _ refl refl)) (λ a. left-all s)
    by (Matched t m) = left-all s

-- ---- a service leaves the timers and the slots, and of the registers all but HSRR and CISR; only that of a match leaves a number

pub record Spared (s t : State) : Type 0 where
  pub time : t.timers ≡ s.timers
  pub slots : t.slots ≡ s.slots
  pub named : (c : ℕ) → (channel t c).timer ≡ (channel s c).timer
  pub late : (c : ℕ) → (channel t c).late ≡ (channel s c).late
  pub room : length t.channels ≡ length s.channels
  pub registers : (i : ℕ) → i ≢ 7 → i ≢ 8 → i ≢ 11 → reg t i ≡ reg s i

spared-all : (s : State) → Spared s s
spared-all s = record { time = refl; slots = refl; named = λ c. refl; late = λ c. refl; room = refl; registers = λ i a b c. refl }

spared-then : (s t u : State) → Spared s t → Spared t u → Spared s u
spared-then s t u x y =
    record {
      time = y.time ∙ x.time;
      slots = y.slots ∙ x.slots;
      named = λ c. y.named c ∙ x.named c;
      late = λ c. y.late c ∙ x.late c;
      room = y.room ∙ x.room;
      registers = λ i a b c. y.registers i a b c ∙ x.registers i a b c;
    }

spared-left : (s t : State) → Left s t → Spared s t
unfolding reg
spared-left s t x =
    record { time = x.time; slots = x.slots; named = x.named; late = x.late; room = x.room; registers = λ i a b c. ap (λ l. get_or l i 0) x.regs }

spared-status : (s : State) (c : ℕ) → Spared s (with_status s c)
unfolding with_status with_reg channel
spared-status s c = record { time = refl; slots = refl; named = λ j. refl; late = λ j. refl; room = refl; registers = λ i a b d. reg-other s cisr _ i d }

spared-request : (s : State) (c r : ℕ) → Spared s (with_request s c r)
unfolding with_request with_reg channel
spared-request s c r =
    record { time = refl; slots = refl; named = λ j. refl; late = λ j. refl; room = refl; registers = λ i a b d. reg-other s (hsrr_of c) _ i (by i a b) }
  where
    by : (i : ℕ) → i ≢ 7 → i ≢ 8 → i ≡ hsrr_of c → ⊥
    by i a b e = let h : (7 ≤ hsrr_of c) × (hsrr_of c ≤ 8) = hsrr-range c in omega arith

pub spared-outcome : (s : State) (i reference : ℕ) (o : Outcome) → Spared s (outcome s i reference o)
unfolding outcome with_phase
spared-outcome s i reference Arrived = spared-then s _ _ (spared-left s _ (left-channel s i _ refl refl)) (spared-status _ i)
spared-outcome s i reference (Step w k) = spared-left s _ (left_step s i reference w k)

spared-initialise : (i : ℕ) (s : State) → Spared s (initialise i s)
unfolding initialise with_set_up
spared-initialise i s =
    spared-then s _ _ (spared-left s _ (left-then (left-pin s i _) (left-then (left_word _ i 0 _) (left-channel _ i _ refl refl)))) (spared-status _ i)

pub spared-request_served : (i : ℕ) (s : State) → Spared s (request_served i s)
unfolding request_served step_request
spared-request_served i s =
    pick-cases (Spared s) (eqb (request s i) 2) (λ a. spared-then s u _ x (spared-initialise i u))
    (λ a. pick-cases (Spared s) (eqb (request s i) 3) (λ b. by (channel s i).phase) (λ b. spared-all s))
  where
    u : State
    u = with_request s i 0

    x : Spared s u
    x = spared-request s i 0

    by : (p : Phase) → Spared s (step_request p i u)
    by Resting = spared-then s u _ x (spared-outcome u i _ _)
    by Requested = spared-then s u _ x (spared-outcome u i _ _)
    by (Armed t) = x
    by (Matched t m) = x

-- a service, but for the number
record Served (s t : State) : Type 0 where
  time : t.timers ≡ s.timers
  slots : t.slots ≡ s.slots
  named : (c : ℕ) → (channel t c).timer ≡ (channel s c).timer
  registers : (i : ℕ) → i ≢ 7 → i ≢ 8 → i ≢ 11 → reg t i ≡ reg s i

request-only : (s t : State) → Spared s t → Served s t
request-only s t x = record { time = x.time; slots = x.slots; named = x.named; registers = x.registers }

told-between : (s t u : State) (i n : ℕ) → Spared s t → Spared (with_late t i n) u → Served s u
unfolding with_late with_channel reg
told-between s t u i n x y =
    record {
      time = y.time ∙ x.time;
      slots = y.slots ∙ x.slots;
      named = λ c. y.named c ∙ channel-keeps (λ (z : Channel). z.timer) t i _ c refl ∙ x.named c;
      registers = λ k a b c. y.registers k a b c ∙ x.registers k a b c;
    }

served-all : (i : ℕ) (s : State) → Served s (served i s)
unfolding served match_served
served-all i s = by (channel s i).phase
  where
    x : Spared s (request_served i s)
    x = spared-request_served i s

    by : (p : Phase) → Served s (match_served p i (request_served i s))
    by Resting = request-only s _ x
    by Requested = request-only s _ x
    by (Armed t) = request-only s _ x
    by (Matched t m) = told-between s (request_served i s) _ i _ x (spared-outcome _ i t _)

-- the slot's service, and the timers, slots and matches before it
record Passed (s t : State) : Type 0 where
  time : t.timers ≡ onward 1 s.timers
  slot : t.slots.slot ≡ (s.slots.slot + 1) % 7
  named : (c : ℕ) → (channel t c).timer ≡ (channel s c).timer
  registers : (i : ℕ) → i ≢ 7 → i ≢ 8 → i ≢ 11 → reg t i ≡ reg s i

begun : (s : State) → Passed s (matches s)
unfolding matches clocked with_timers with_slots ticked channel reg
begun s =
    let x : Spared (clocked s) (matches s) = spared-left (clocked s) _ (left-each 16 0 matched left-matched (clocked s)) in
    record { time = x.time; slot = ap (λ (z : Slots). z.slot) x.slots; named = x.named; registers = x.registers }

passed-served : (s t : State) (c : ℕ) (u : Slots) → u.slot ≡ t.slots.slot → Passed s t → Passed s (served c (with_slots t u))
unfolding with_slots channel reg
passed-served s t c u e x =
    let y : Served (with_slots t u) (served c (with_slots t u)) = served-all c (with_slots t u) in
    record {
      time = y.time ∙ x.time;
      slot = ap (λ (z : Slots). z.slot) y.slots ∙ e ∙ x.slot;
      named = λ j. y.named j ∙ x.named j;
      registers = λ i a b d. y.registers i a b d ∙ x.registers i a b d;
    }

passed : (s : State) → Passed s (tick s)
unfolding tick slot_served service_in
passed s = by (service_in s) refl
  where
    by : (v : Option Service) → service_in s ≡ v → Passed s (slot_served v (matches s))
    by (Some v) e = passed-served s (matches s) v.channel v.slots (one-service.turns (matches s).slots v.slots (asks_of (matches s)) v.channel e).slot (begun s)
    by None e = begun s

-- the time of the group of c after the next tick
abbrev pub time_next : State → ℕ → ℕ
time_next s c = time_by (channel s c).timer (onward 1 s.timers)

pub tick-timers : (s : State) → (tick s).timers ≡ onward 1 s.timers
tick-timers s = (passed s).time

-- ---- in numbers

first : (s : State) → (tick s).timers.tcr1 ≡ (s.timers.tcr1 + 1) % 65536
unfolding onward later
first s = ap (λ (t : Timers). t.tcr1) (tick-timers s)

second : (s : State) → (tick s).timers.tcr2 ≡ (s.timers.tcr2 + (s.timers.tcr1 % 8 + 1) / 8) % 65536
unfolding onward later
second s = ap (λ (t : Timers). t.tcr2) (tick-timers s)

-- many ticks move both at once; `onward 0` takes each modulo 65,536
ticks-timers : (s : State) (n : ℕ) → onward 0 (after_ticks n s).timers ≡ onward n s.timers
unfolding after_ticks
ticks-timers s zero = refl
ticks-timers s (suc n) =
    let t : Timers = (after_ticks n s).timers in
    ap (onward 0) (tick-timers (after_ticks n s)) ∙ onward-add 1 0 t ∙ sym (onward-add 0 1 t)
    ∙ ap (onward 1) (ticks-timers s n) ∙ onward-add n 1 s.timers ∙ ap (λ k. onward k s.timers) (omega arith)

many : (s : State) (n : ℕ) → (after_ticks n s).timers.tcr1 % 65536 ≡ (s.timers.tcr1 + n) % 65536
unfolding onward later
many s n = omega (arith, ap (λ (t : Timers). t.tcr1) (ticks-timers s n))

eighths : (s : State) (n : ℕ) → (after_ticks n s).timers.tcr2 % 65536 ≡ (s.timers.tcr2 + (s.timers.tcr1 % 8 + n) / 8) % 65536
unfolding onward later
eighths s n =
    let e : (after_ticks n s).timers.tcr2 + ((after_ticks n s).timers.tcr1 % 8 + 0) / 8 ≡ (after_ticks n s).timers.tcr2 = omega arith in
    ap (λ k. k % 65536) (sym e) ∙ ap (λ (t : Timers). t.tcr2) (ticks-timers s n)

slots-many : (s : State) (n : ℕ) → (after_ticks n s).slots.slot % 7 ≡ (s.slots.slot + n) % 7
unfolding after_ticks
slots-many s zero = omega arith
slots-many s (suc n) = omega (arith, (passed (after_ticks n s)).slot, slots-many s n)

pub time-passes : TimePasses
time-passes =
    record {
      one = first;
      many = many;
      rises = λ s e. second s ∙ omega (arith, first s);
      stands = λ s n. second s ∙ omega (arith, first s);
      eighths = eighths;
      slot = λ s. (passed s).slot;
      slots = slots-many;
      registers = λ s. (passed s).registers;
      named = λ s. (passed s).named;
    }
