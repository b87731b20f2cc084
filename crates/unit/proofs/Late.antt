-- How late a service was, after a tick: `late-tick`. Nothing but the service of a match changes the number.
use Prim.Native.Nat.{ℕ, zero, suc, ◌+◌, ◌≤◌, ◌<◌}
use native.Mathlib.Nat.{eq-or-lt_of_le}
use native.Mathlib.Omega.{arith}
use mathlib.Core.Bool.{Bool, true, false}
use mathlib.Core.Path.{◌≡◌, refl, ap, subst, ◌∙◌}
use mathlib.Core.Logic.{◌≢◌, ⊎_elim}
use lib.Dec.{eqb}
use lib.ListN.{length}
use borrow.Author.Tests.{eqb-true, eqb-false}
use Rattle.std.specs.Prelude.{Option, Some, None}
use Rattle.words.specs.Choice.{pick}
use Rattle.words.specs.Clock.{since, due, time_by}
use Rattle.words.proofs.ChoiceLaws.{pick-cases}
use Rattle.slots.specs.declared.Slots.{Slots}
use Rattle.slots.specs.declared.Service.{Service}
use Rattle.slots.specs.Claims.{goes_to}
use Rattle.motor.specs.declared.Phase.{Phase}
use Rattle.motor.specs.declared.Phase.TheVariants.{Resting, Requested, Armed, Matched}
use Rattle.motor.specs.Group.{armed, happened}
use Rattle.unit.specs.declared.Channel.{Channel}
use Rattle.unit.specs.declared.State.{State}
use Rattle.unit.specs.TheUnit.{channel_at, with_pins, with_timers, with_slots, each, with_pin, channel, with_phase, with_late, time_for, size}
use Rattle.unit.specs.Stepping.{pin_out, pins_out}
use Rattle.unit.specs.OneTick.{match_of, matched, request_served, match_served, served, slot_served, clocked, matches, service_in, tick}
use Rattle.unit.proofs.Reset.{Sized}
use Rattle.unit.proofs.Access.{channel-set, channel-other}
use Rattle.unit.proofs.Passing.{Left, left-each, left-matched, Spared, spared-outcome, spared-request_served, time_next}

-- ---- its phase after the matches

pins-channels : (n a : ℕ) (s : State) → (each n a pin_out s).channels ≡ s.channels
unfolding each pin_out with_pin with_pins
pins-channels zero a s = refl
pins-channels (suc n) a s = pins-channels n a s

out-channel : (s : State) (i c : ℕ) → channel (pins_out s i) c ≡ channel s c
unfolding pins_out channel
out-channel s i c = ap (λ l. channel_at l c) (pins-channels (size s i) i s)

match-other : (c j : ℕ) → c ≢ j → (s : State) → (channel (matched j s) c).phase ≡ (channel s c).phase
unfolding matched match_of with_phase
match-other c j n s = by (channel s j).phase
  where
    by : (p : Phase) → (channel (match_of p j s) c).phase ≡ (channel s c).phase
    by Resting = refl
    by Requested = refl
    by (Armed t) =
        pick-cases (λ (u : State). (channel u c).phase ≡ (channel s c).phase) (due (time_for s j) t)
        (λ a. ap (λ (x : Channel). x.phase) (channel-other (pins_out s j) j _ c n ∙ out-channel s j c)) (λ a. refl)
    by (Matched t m) = refl

match-own : (c : ℕ) (s : State) → length s.channels ≡ 16 → c < 16 → (channel (matched c s) c).phase ≡ happened (time_for s c) (channel s c).phase
unfolding matched match_of with_phase happened armed pins_out
match-own c s z h = by (channel s c).phase refl
  where
    by : (p : Phase) → (channel s c).phase ≡ p → (channel (match_of p c s) c).phase ≡ happened (time_for s c) p
    by Resting e = e
    by Requested e = e
    by (Armed t) e = due-by (due (time_for s c) t)
      where
        due-by : (b : Bool) → (channel (pick b (with_phase (pins_out s c) c (channel s c).way (Matched (time_for s c) t)) s) c).phase ≡ pick b (Matched (time_for s c) t) (Armed t)
        due-by true = ap (λ (x : Channel). x.phase) (channel-set (pins_out s c) c _ (ap length (pins-channels (size s c) c s) ∙ z) h)
        due-by false = e
    by (Matched t m) e = e

-- the loop meets c once
module _ (c : ℕ) (h : c < 16) (s : State) (z : length s.channels ≡ 16) where
  so_far : (n a : ℕ) → Left s (each n a matched s)
  so_far n a = left-each n a matched left-matched s

  before : (n a : ℕ) → a + n ≤ c → (channel (each n a matched s) c).phase ≡ (channel s c).phase
  unfolding each
  before zero a l = refl
  before (suc n) a l = match-other c (a + n) (omega arith) (each n a matched s) ∙ before n a (omega arith)

  meets : (n a : ℕ) → a ≤ c → c < a + n → (channel (each n a matched s) c).phase ≡ happened (time_for s c) (channel s c).phase
  unfolding each
  meets zero a l m = absurd (omega arith)
  meets (suc n) a l m =
      let t : State = each n a matched s in
      let x : Left s t = so_far n a in
      let now : time_for t c ≡ time_for s c = ap (λ k. time_by k t.timers) (x.named c) ∙ ap (time_by (channel s c).timer) x.time in
      ⊎_elim
      (λ q. subst (λ j. (channel (matched j t) c).phase ≡ happened (time_for s c) (channel s c).phase) q
      (match-own c t (x.room ∙ z) h ∙ ap (λ k. happened k (channel t c).phase) now ∙ ap (happened (time_for s c)) (before n a (omega arith))))
      (λ q. match-other c (a + n) (omega arith) t ∙ meets n a l q)
      (eq-or-lt_of_le (let k : c ≤ a + n = omega arith in k))

pub phase-matches : (c : ℕ) (s : State) → Sized s → c < 16 → (channel (matches s) c).phase ≡ happened (time_next s c) (channel s c).phase
unfolding matches clocked with_timers with_slots channel
phase-matches c s z h = meets c h (clocked s) z.channels 16 0 (omega arith) (omega arith)

-- ---- the number

-- after a service, by the phase in which it begins
unfoldable pub late_by : Phase → ℕ → ℕ → ℕ
late_by Resting now n = n
late_by Requested now n = n
late_by (Armed time) now n = n
late_by (Matched captured time) now n = since now time

late-other : (c j : ℕ) → c ≢ j → (s : State) → (channel (served j s) c).late ≡ (channel s c).late
unfolding served match_served with_late
late-other c j n s = by (channel s j).phase
  where
    u : State
    u = request_served j s

    kept : (channel u c).late ≡ (channel s c).late
    kept = (spared-request_served j s).late c

    by : (p : Phase) → (channel (match_served p j u) c).late ≡ (channel s c).late
    by Resting = kept
    by Requested = kept
    by (Armed t) = kept
    by (Matched t m) = (spared-outcome _ j t _).late c ∙ ap (λ (x : Channel). x.late) (channel-other u j _ c n) ∙ kept

late-own : (c : ℕ) (s : State) → length s.channels ≡ 16 → c < 16 → (channel (served c s) c).late ≡ late_by (channel s c).phase (time_for s c) (channel s c).late
unfolding served match_served with_late late_by
late-own c s z h = by (channel s c).phase
  where
    u : State
    u = request_served c s

    x : Spared s u
    x = spared-request_served c s

    by : (p : Phase) → (channel (match_served p c u) c).late ≡ late_by p (time_for s c) (channel s c).late
    by Resting = x.late c
    by Requested = x.late c
    by (Armed t) = x.late c
    by (Matched t m) =
        (spared-outcome _ c t _).late c ∙ ap (λ (y : Channel). y.late) (channel-set u c _ (x.room ∙ z) h)
        ∙ ap (λ k. since (time_by k u.timers) m) (x.named c) ∙ ap (λ k. since (time_by (channel s c).timer k) m) x.time

-- ---- a tick

module _ (c : ℕ) (h : c < 16) (s : State) (z : Sized s) where
  abbrev now : ℕ
  now = time_next s c

  -- what the service finds
  begun : Left (clocked s) (matches s)
  unfolding matches
  begun = left-each 16 0 matched left-matched (clocked s)

  number : (channel (matches s) c).late ≡ (channel s c).late
  unfolding clocked with_timers with_slots channel
  number = begun.late c

  time : time_for (matches s) c ≡ now
  unfolding clocked with_timers with_slots channel
  time = ap (λ k. time_by k (matches s).timers) (begun.named c) ∙ ap (time_by (channel s c).timer) begun.time

  room : length (matches s).channels ≡ 16
  unfolding clocked with_timers with_slots
  room = begun.room ∙ z.channels

  -- in a slot of its own, and in another's
  own : (u : Slots) → (channel (served c (with_slots (matches s) u)) c).late ≡ late_by (happened now (channel s c).phase) now (channel s c).late
  unfolding with_slots channel
  own u =
      late-own c (with_slots (matches s) u) room h ∙ ap (λ p. late_by p (time_for (matches s) c) (channel (matches s) c).late) (phase-matches c s z h)
      ∙ ap (λ k. late_by (happened now (channel s c).phase) k (channel (matches s) c).late) time
      ∙ ap (late_by (happened now (channel s c).phase) now) number

  others : (d : ℕ) (u : Slots) → c ≢ d → (channel (served d (with_slots (matches s) u)) c).late ≡ (channel s c).late
  unfolding with_slots channel
  others d u n = late-other c d n (with_slots (matches s) u) ∙ number

  pub late-tick : (channel (tick s) c).late ≡ pick (goes_to c (service_in s)) (late_by (happened now (channel s c).phase) now (channel s c).late) (channel s c).late
  unfolding tick slot_served service_in goes_to
  late-tick = by (service_in s)
    where
      to : (d : ℕ) (u : Slots) (b : Bool) → eqb c d ≡ b
          → (channel (served d (with_slots (matches s) u)) c).late ≡ pick b (late_by (happened now (channel s c).phase) now (channel s c).late) (channel s c).late
      to d u true e = subst (λ i. (channel (served i (with_slots (matches s) u)) c).late ≡ late_by (happened now (channel s c).phase) now (channel s c).late) (eqb-true c d e) (own u)
      to d u false e = others d u (eqb-false c d e)

      by : (v : Option Service) → (channel (slot_served v (matches s)) c).late ≡ pick (goes_to c v) (late_by (happened now (channel s c).phase) now (channel s c).late) (channel s c).late
      by (Some v) = to v.channel v.slots (eqb c v.channel) refl
      by None = number
