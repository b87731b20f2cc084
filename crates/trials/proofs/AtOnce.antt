-- The history of specs/AtOnce, computed: one of two motors is served a count late.
use native.Mathlib.Omega.{arith}
use mathlib.Core.Bool.{true}
use mathlib.Core.List.{[], ◌∷◌, ◌++◌}
use mathlib.Core.Path.{◌≡◌, refl}
use Rattle.unit.specs.TheUnit.{reset_state, phase_from, flags_of, stands_for, time_after, set_after, latched, channel_at, with_words, with_reg, with_timers, with_pins, with_channel, each, all, any, cfsr_of, hsrr_of, cpr_of, reg, function, request, with_slots, with_request, priority, status, with_status, with_pin, channel, with_initialised, with_set_up, with_level, with_phase, with_binding, with_late, kind_in, word, with_word, exists, channel_control, pin_control, position, target, mod_count, next_rate, top, last, cntl0, cntl1, size, motor_of, stepping, reaches, is_bound}
use Rattle.unit.specs.Stepping.{pin_out, pins_out, next_count, turned_once, prepared, match_set, stepped, outcome}
use Rattle.unit.specs.OneTick.{match_of, matched, initialise, step_request, request_served, match_served, served, slot_served, clocked, matches, service_in, tick}
use Rattle.unit.specs.Gate.{place, is_place, is_written, in_list, is_free, is_stepper, is_timed, may_initialise, otherwise_zero, span_good, is_ready, group_ready, shows_pattern, pattern_good, ramp_good, quick_good, target_good, advance_good, requested, ask_initialise, ask_step, ask_channel, and_then, ask_channels, verdict_of, keeps_or_free, ask_register, ask_word, ask_place, gate, requested_one, stored, done}
use Rattle.unit.specs.Pending.{is_matched, is_wanted, wanted, asks_of}
use Rattle.slots.specs.Slots.{ticked, slot_level, begins, found, highest, chosen}
use Rattle.slots.specs.Slots as slots
use Rattle.unit.specs.Calls.{word_at, read_of, answered_by, write_of, advance_of, is_taken}
use Rattle.history.specs.Moments.{Writes, acts_of, acts, does, through, Typed, priority_of, see, is_target_of, is_step_of, event_of, moments, SetsGoing}
use Rattle.history.specs.Term3.{Cut, at_count, moments_gone}
use Rattle.words.specs.Choice.{ask}
use Rattle.words.specs.Clock.{since, due, later, time_by, onward, ticks_a_count, ticks_until, same_timer}
use Rattle.words.specs.Field.{field, with_field, bit_of}
use Rattle.words.specs.Rotation.{rotated_right, rotated_left}
use Rattle.motor.specs.Stepping.{period, ahead, accelerates, choice, test, turn, on_request, on_match, beside}
use Rattle.motor.specs.Group.{bound}
use Rattle.motor.specs.Count.{Keeps}
use Rattle.trials.specs.AtOnce.{pair_set_up, at_once, AtOnce}
use Rattle.history.proofs.Calls.{all_words, typed}
use Rattle.words.specs.declared.Timer.TheVariants.{Tcr1}
use Rattle.unit.specs.Answers.{reading_word}
use Rattle.unit.specs.Readings.{late_word}
use Rattle.slots.specs.Claims.{goes_to}
use Rattle.history.specs.OneStep.{IsServed, is_past, shown_by, clock_of, unserved}
use Rattle.history.specs.Late.{ServesMatch}
use Rattle.history.proofs.Late.{how-late}
use Rattle.trials.proofs.History.{all_bound, all_kept, under-way, kept-all}

record Computed : Type 0 where
  words : all_words at_once.calls ≡ true
  whole : acts at_once.calls ≡ at_once.before ++ (Writes 0xe1a 0x3300 ∷ (at_once.gone ++ []))
  starts : SetsGoing 6 0xe1a 0x3300 (through reset_state (acts pair_set_up))
  bound : all_bound (moments_gone at_once) ≡ true
  kept : all_kept (moments_gone at_once) ≡ true
  serves : ServesMatch 6 (at_count at_once)
  timer : (channel (at_count at_once) 6).timer ≡ Tcr1
  first : late_word 4 (at_count at_once) ≡ 0
  second : late_word 6 (tick (at_count at_once)) ≡ 1

computed : Computed
unfolding is_matched is_wanted wanted asks_of ticked slot_level begins found highest chosen slots.served with_slots priority slot_served matches service_in quick_good phase_from flags_of stands_for time_after set_after latched channel_at with_words with_reg with_timers with_pins with_channel each all any cfsr_of hsrr_of cpr_of reg function request with_request status with_status with_pin channel with_initialised with_set_up with_level with_phase with_binding with_late kind_in word with_word exists channel_control pin_control position target mod_count next_rate top last cntl0 cntl1 size motor_of stepping reaches is_bound pin_out pins_out next_count turned_once prepared match_set stepped outcome match_of matched initialise step_request request_served match_served served clocked tick place is_written in_list is_free is_stepper is_timed may_initialise otherwise_zero span_good is_ready group_ready shows_pattern pattern_good ramp_good target_good advance_good requested ask_initialise ask_step ask_channel and_then ask_channels verdict_of keeps_or_free ask_register ask_word ask_place gate requested_one stored done answered_by write_of advance_of acts_of acts does through Typed priority_of see is_taken is_target_of is_step_of event_of moments ask since due later time_by onward ticks_a_count ticks_until same_timer field with_field bit_of rotated_right rotated_left period ahead accelerates choice test turn on_request on_match beside bound all_bound all_kept all_words pair_set_up at_once ServesMatch IsServed goes_to is_past shown_by clock_of unserved is_place word_at read_of reading_word
computed =
    record {
      words = refl;
      whole = refl;
      starts = record { step = refl; taken = refl; resting = refl };
      bound = refl;
      kept = refl;
      serves = (refl, refl);
      timer = refl;
      first = refl;
      second = refl;
    }

cut : Cut at_once
unfolding at_once
cut =
    record {
      listed = typed _ computed.words;
      whole = computed.whole;
      starts = computed.starts;
      under-way = under-way (moments_gone at_once) computed.bound;
    }

pub at-once : AtOnce
unfolding at_once
at-once =
    let kept : Keeps 1 (moments_gone at_once) = kept-all (moments_gone at_once) computed.kept in
    record {
      cut = cut;
      keeps = kept;
      serves = computed.serves;
      timer = computed.timer;
      first = computed.first;
      second = computed.second;
      bounded = how-late.fast at_once cut 1 (omega arith) kept computed.serves computed.timer;
    }
