-- The winder of specs/Winder, computed: it meets what `comes_home` asks for.
use Prim.Native.Nat.{ℕ, zero, suc, ◌+◌, ◌-◌, ◌*◌, ◌/◌, ◌%◌}
use native.Mathlib.Omega.{arith}
use mathlib.Core.Bool.{true, false}
use mathlib.Core.List.{List, [], ◌∷◌, ◌++◌}
use mathlib.Core.Path.{◌≡◌, refl, ap, sym, ◌∙◌}
use lib.ListN.{replicate}
use Rattle.unit.specs.TheUnit.{reset_state, phase_from, flags_of, stands_for, time_after, set_after, latched, channel_at, with_words, with_reg, with_timers, with_pins, with_channel, each, all, any, cfsr_of, hsrr_of, cpr_of, reg, function, request, with_slots, with_request, priority, status, with_status, with_pin, channel, with_initialised, with_set_up, with_level, with_phase, with_binding, with_late, kind_in, word, with_word, exists, channel_control, pin_control, position, target, mod_count, next_rate, top, last, cntl0, cntl1, size, motor_of, stepping, reaches, is_bound}
use Rattle.unit.specs.Stepping.{pin_out, pins_out, next_count, turned_once, prepared, match_set, stepped, outcome}
use Rattle.unit.specs.OneTick.{match_of, matched, initialise, step_request, request_served, match_served, served, slot_served, clocked, matches, service_in, tick, after_ticks}
use Rattle.unit.specs.Gate.{place, is_written, in_list, is_free, is_stepper, is_timed, may_initialise, otherwise_zero, span_good, is_ready, group_ready, shows_pattern, pattern_good, ramp_good, quick_good, target_good, advance_good, requested, ask_initialise, ask_step, ask_channel, and_then, ask_channels, verdict_of, keeps_or_free, ask_register, ask_word, ask_place, gate, requested_one, stored, done}
use Rattle.unit.specs.Calls.{Call, Write, Advance, answered_by, write_of, advance_of, is_taken}
use Rattle.words.specs.Choice.{ask}
use Rattle.words.specs.Clock.{since, due, later, time_by, onward, ticks_a_count, ticks_until, same_timer}
use Rattle.words.specs.Field.{field, with_field, bit_of}
use Rattle.words.specs.Rotation.{rotated_right, rotated_left}
use Rattle.unit.specs.declared.State.{State}
use Rattle.unit.proofs.Passing.{time-passes}
use Rattle.history.specs.Moments.{Ticks, Writes, acts_of, acts, does, through, Typed, priority_of, see, is_target_of, is_step_of, event_of, moments, SetsGoing}
use Rattle.history.specs.Term3.{in_ticks, longest_step}
use Rattle.history.proofs.Term3.{term-3}
use Rattle.motor.specs.Stepping.{period, ahead, accelerates, choice, test, turn, on_request, on_match, beside}
use Rattle.motor.specs.Group.{bound}
use Rattle.motor.specs.Track.{distance}
use Rattle.motor.specs.Count.{ticks_of, ticks_in, longest_wait, is_target, Keeps, NoTarget}
use Rattle.unit.specs.Pending.{is_matched, is_wanted, wanted, asks_of}
use Rattle.unit.specs.Quiet.{until_due, waits, quiet_at, quiet_below}
use Rattle.slots.specs.Slots.{slot_level, idled, begins, found, highest, chosen}
use Rattle.slots.specs.Slots as slots
use Rattle.history.proofs.Calls.{all_words, typed}
use Rattle.trials.specs.Trials.{ticked}
use Rattle.trials.proofs.Leaps.{quiet_of, onward_by, look, leapt, leapt_ticked, ticked-is, ticked-after}
use Rattle.trials.specs.Winder.{ready_to_wind, winding, Winds}

-- ---- ticks alone, from any state

same-priority : (c : ℕ) (s : State) → priority_of c (tick s) ≡ priority_of c s
unfolding priority_of
same-priority c s =
    ap (λ w. field 2 w (2 * (c % 8))) (time-passes.registers s (9 + (1 - c / 8)) (λ e. omega arith) (λ e. omega arith) (λ e. omega arith))

all-kept : (n l c : ℕ) (s : State) → priority_of c s ≡ l → Keeps l (moments c s (replicate n Ticks))
unfolding moments Keeps see does
all-kept zero l c s h = tt
all-kept (suc n) l c s h = (h, all-kept n l c (tick s) (same-priority c s ∙ h))

no_target : (n c : ℕ) (s : State) → NoTarget (moments c s (replicate n Ticks))
unfolding moments NoTarget event_of is_target does
no_target zero c s = tt
no_target (suc n) c s = (refl, no_target n c (tick s))

all-ticks : (n c : ℕ) (s : State) → ticks_in (moments c s (replicate n Ticks)) ≡ n
unfolding moments ticks_in ticks_of event_of does
all-ticks zero c s = refl
all-ticks (suc n) c s = omega (arith, all-ticks n c (tick s))

-- ---- the winder

unfoldable calls : List Call
calls = ready_to_wind ++ (Write 0xe1a 0x0300 ∷ Advance 4096 (replicate 4096 0) ∷ Advance 4096 (replicate 4096 0) ∷ Advance 2273 (replicate 2273 0) ∷ [])

record Computed : Type 0 where
  words : all_words ready_to_wind ≡ true
  starts : SetsGoing 4 0xe1a 0x0300 (through reset_state (acts ready_to_wind))
  on : priority_of 4 winding ≡ 1
  promised : longest_wait (longest_step 4 winding) 9 ≡ 10465
  far : distance (position winding 4) (target winding 4) ≡ 9
  under-way : is_bound (leapt_ticked 9185 winding) 4 ≡ true
  not-before : is_bound (leapt_ticked 9216 winding) 4 ≡ true
  arrived : is_bound (leapt_ticked 9217 winding) 4 ≡ false

computed : Computed
unfolding slot_level slots.ticked idled begins found highest chosen slots.served asks_of is_matched is_wanted wanted until_due waits quiet_at quiet_below quiet_of look leapt onward_by ticked with_slots priority slot_served matches service_in quick_good phase_from flags_of stands_for time_after set_after latched channel_at with_words with_reg with_timers with_pins with_channel each all any cfsr_of hsrr_of cpr_of reg function request with_request status with_status with_pin channel with_initialised with_set_up with_level with_phase with_binding with_late kind_in word with_word exists channel_control pin_control position target mod_count next_rate top last cntl0 cntl1 size motor_of stepping reaches is_bound pin_out pins_out next_count turned_once prepared match_set stepped outcome match_of matched initialise step_request request_served match_served served clocked tick after_ticks place is_written in_list is_free is_stepper is_timed may_initialise otherwise_zero span_good is_ready group_ready shows_pattern pattern_good ramp_good target_good advance_good requested ask_initialise ask_step ask_channel and_then ask_channels verdict_of keeps_or_free ask_register ask_word ask_place gate requested_one stored done answered_by write_of advance_of acts_of acts does through Typed priority_of see is_taken is_target_of is_step_of event_of moments in_ticks longest_step ask since due later time_by onward ticks_a_count ticks_until same_timer field with_field bit_of rotated_right rotated_left period ahead accelerates choice test turn on_request on_match beside bound distance all_words calls ready_to_wind winding
computed =
    record {
      words = refl;
      starts = record { step = refl; taken = refl; resting = refl };
      on = refl;
      promised = refl;
      far = refl;
      under-way = refl;
      not-before = refl;
      arrived = refl;
    }

happens : acts calls ≡ acts ready_to_wind ++ (Writes 0xe1a 0x0300 ∷ (replicate 10465 Ticks ++ []))
unfolding calls acts acts_of advance_good ready_to_wind
happens = refl

typed-calls : Typed calls
unfolding calls Typed ready_to_wind all_words
typed-calls = typed calls refl

-- a run in leaps is the run tick by tick
leaps : (n : ℕ) → is_bound (after_ticks n winding) 4 ≡ is_bound (leapt_ticked n winding) 4
leaps n = ap (λ (s : State). is_bound s 4) (sym (ticked-is n winding ∙ ticked-after n winding))

pub winds : Winds
unfolding winding
winds =
    record {
      promised = computed.promised;
      home = term-3.comes_home calls (acts ready_to_wind) (replicate 10465 Ticks) [] 4 0xe1a 0x0300 typed-calls happens computed.starts
          1 (omega arith) (all-kept 10465 1 4 winding computed.on) (no_target 10465 4 winding)
          (rw (computed.far, all-ticks 10465 4 winding) (omega (arith, computed.promised)));
      under-way = leaps 9185 ∙ computed.under-way;
      not-before = leaps 9216 ∙ computed.not-before;
      arrived = leaps 9217 ∙ computed.arrived;
    }
