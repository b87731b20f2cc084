-- The two runs of `Moves`, computed.
use Prim.Native.Nat.{ℕ, ◌≤◌}
use native.Mathlib.Omega.{arith}
use mathlib.Core.Bool.{true, false}
use mathlib.Core.List.{List, [], ◌∷◌, ◌++◌}
use mathlib.Core.Path.{◌≡◌, refl, sym, subst, ◌∙◌}
use Rattle.unit.specs.TheUnit.{reset_state, phase_from, flags_of, stands_for, time_after, set_after, latched, channel_at, with_words, with_reg, with_timers, with_pins, with_channel, each, all, any, cfsr_of, hsrr_of, cpr_of, reg, function, request, with_slots, with_request, priority, status, with_status, with_pin, channel, with_initialised, with_set_up, with_level, with_phase, with_binding, with_late, kind_in, word, with_word, exists, channel_control, pin_control, position, target, mod_count, next_rate, top, last, cntl0, cntl1, size, motor_of, stepping, reaches, is_bound, pin}
use Rattle.unit.specs.Stepping.{pin_out, pins_out, next_count, turned_once, prepared, match_set, stepped, outcome}
use Rattle.unit.specs.OneTick.{match_of, matched, initialise, step_request, request_served, match_served, served, slot_served, clocked, matches, service_in, tick}
use Rattle.unit.specs.Pending.{is_matched, is_wanted, wanted, asks_of}
use Rattle.slots.specs.Slots.{ticked, slot_level, begins, found, highest, chosen}
use Rattle.slots.specs.Slots as slots
use Rattle.unit.specs.Gate.{place, is_written, in_list, is_free, is_stepper, is_timed, may_initialise, otherwise_zero, span_good, is_ready, group_ready, shows_pattern, pattern_good, ramp_good, quick_good, target_good, advance_good, requested, ask_initialise, ask_step, ask_channel, and_then, ask_channels, verdict_of, keeps_or_free, ask_register, ask_word, ask_place, gate, requested_one, stored, done}
use Rattle.unit.specs.Calls.{answered_by, write_of, advance_of, is_taken}
use Rattle.words.specs.Choice.{ask}
use Rattle.words.specs.Clock.{since, due, later, time_by, onward, same_timer}
use Rattle.words.specs.Field.{field, with_field, bit_of}
use Rattle.words.specs.Rotation.{rotated_right, rotated_left}
use Rattle.motor.specs.Stepping.{period, ahead, accelerates, choice, test, turn, on_request, on_match, beside}
use Rattle.motor.specs.Group.{bound}
use Rattle.motor.specs.Schedule.{rise}
use Rattle.slots.specs.Claims.{goes_to}
use Rattle.history.specs.Moments.{Ticks, Writes, acts_of, acts, does, through, Typed, priority_of, is_step_of, SetsGoing}
use Rattle.isolation.specs.Row.{Felt, Passes, Word, Function, Priority, Request, in_row, gather, new_function, new_priority, new_request, felt_at, felt_of, felt}
use Rattle.isolation.specs.OneMove.{Course, Unserved, counts_of, at_request, at_start, at_service, at_first, at_now, from_request, CourseOf}
use Rattle.history.proofs.Calls.{all_words, typed}
use Rattle.isolation.proofs.OneMove.{one-move}
use Rattle.moves.specs.Moves.{row, alone, crowded, Moves}
use Rattle.moves.proofs.Decided.{runs, running, stays, keeps, no_aim, leaves_targets, leaves_all, untouched}

-- what the row feels of both before the request
abbrev heard : List Felt
heard =
    Function 4 13 ∷ Function 5 13 ∷ Priority 4 3 ∷ Priority 5 3 ∷ Word 4 0 0x0081 ∷ Word 4 1 0xcccc ∷ Word 4 4 0x0001 ∷ Word 4 5 0x0105
    ∷ Word 5 0 0x0082 ∷ Word 5 1 0x6666 ∷ Word 5 3 128 ∷ Request 4 2 ∷ Request 5 2 ∷ Passes ∷ Passes ∷ Word 4 3 1 ∷ []

-- what is computed of a course, at the end of which the pin word is `w`
record Computed (k : Course) (w : ℕ) : Type 0 where
  words : all_words k.calls ≡ true
  whole : acts k.calls ≡ k.before ++ (Writes k.a k.v ∷ (k.waits ++ (Ticks ∷ (k.since ++ k.rest))))
  starts : SetsGoing 4 k.a k.v (at_request k)
  unserved : Unserved 4 (at_start k) k.waits
  served : goes_to 4 (service_in (at_service k)) ≡ true
  runs : runs 4 (at_first k) k.since ≡ true
  last : last (at_request k) 4 ≡ 5
  leaves : leaves_all row reset_state (k.before ++ (Writes k.a k.v ∷ from_request k)) ≡ true
  stays : stays 3 4 (at_start k) (from_request k) ≡ true
  heard : felt row reset_state k.before ≡ heard
  counts : counts_of 4 (at_first k) k.since ≡ 128
  was : pin (at_start k) 4 ≡ true
  changed : pin (at_now k) 4 ≡ false
  pins : (at_now k).pins ≡ w

computed : Computed (alone 128) 0x0000 × Computed (crowded 128) 0x0003
unfolding is_matched is_wanted wanted asks_of ticked slot_level begins found highest chosen slots.served phase_from flags_of stands_for time_after set_after latched channel_at with_words with_reg with_timers with_pins with_channel each all any cfsr_of hsrr_of cpr_of reg function request with_slots with_request priority status with_status with_pin channel with_initialised with_set_up with_level with_phase with_binding with_late kind_in word with_word exists channel_control pin_control position target mod_count next_rate top last cntl0 cntl1 size motor_of stepping reaches is_bound pin_out pins_out next_count turned_once prepared match_set stepped outcome match_of matched initialise step_request request_served match_served served slot_served clocked matches service_in tick place is_written in_list is_free is_stepper is_timed may_initialise otherwise_zero span_good is_ready group_ready shows_pattern pattern_good ramp_good quick_good target_good advance_good requested ask_initialise ask_step ask_channel and_then ask_channels verdict_of keeps_or_free ask_register ask_word ask_place gate requested_one stored done answered_by write_of advance_of ask since due later time_by onward same_timer field with_field bit_of rotated_right rotated_left period ahead accelerates choice test turn on_request on_match beside bound goes_to is_taken felt felt_of felt_at gather new_function new_priority new_request acts_of acts does through Typed is_step_of runs stays no_aim leaves_targets leaves_all counts_of rise pin Unserved all_words priority_of in_row
computed = (
  record {
    words = refl;
    whole = refl;
    starts = record { step = refl; taken = refl; resting = refl };
    unserved = tt;
    served = refl;
    runs = refl;
    last = refl;
    leaves = refl;
    stays = refl;
    heard = refl;
    counts = refl;
    was = refl;
    changed = refl;
    pins = refl;
  },
  record {
    words = refl;
    whole = refl;
    starts = record { step = refl; taken = refl; resting = refl };
    unserved = (refl, (refl, tt));
    served = refl;
    runs = refl;
    last = refl;
    leaves = refl;
    stays = refl;
    heard = refl;
    counts = refl;
    was = refl;
    changed = refl;
    pins = refl;
  },
)

course : (k : Course) (w : ℕ) → Computed k w → CourseOf Typed row 4 k
course k w x =
    record {
      listed = typed k.calls x.words;
      whole = x.whole;
      starts = x.starts;
      unserved = x.unserved;
      served = x.served;
      running = running 4 (at_first k) k.since x.runs;
      inside = subst (λ n. n ≤ 5) (sym x.last) (omega arith);
      untouched = untouched row reset_state (k.before ++ (Writes k.a k.v ∷ from_request k)) x.leaves;
      level = 3;
      kept = keeps 3 4 (at_start k) (from_request k) x.stays;
      enabled = λ e. omega arith;
    }

pub moves : Moves
unfolding in_row
moves =
    let x : Computed (alone 128) 0x0000 = computed.0 in
    let y : Computed (crowded 128) 0x0003 = computed.1 in
    record {
      first = course (alone 128) 0x0000 x;
      second = course (crowded 128) 0x0003 y;
      was = (x.was, y.was);
      changed = (x.changed, y.changed);
      other = (x.pins, y.pins);
      agree = one-move.alike row 4 (omega arith) refl (alone 128) (crowded 128) (course (alone 128) 0x0000 x) (course (crowded 128) 0x0003 y)
          (x.heard ∙ sym y.heard) (x.counts ∙ sym y.counts);
    }
