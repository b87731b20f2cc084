-- The short runs from reset, computed: `rows`.
use mathlib.Core.Path.{refl}
use Rattle.unit.specs.TheUnit.{phase_from, flags_of, stands_for, time_after, set_after, latched, channel_at, with_words, with_reg, with_timers, with_pins, with_channel, each, all, any, cfsr_of, hsrr_of, cpr_of, reg, function, request, with_slots, with_request, priority, status, with_status, with_pin, channel, with_initialised, with_set_up, with_level, with_phase, with_binding, with_late, kind_in, word, with_word, exists, channel_control, pin_control, position, target, mod_count, next_rate, top, last, cntl0, cntl1, size, motor_of, stepping, reaches, is_bound}
use Rattle.unit.specs.Stepping.{pin_out, pins_out, next_count, turned_once, prepared, match_set, stepped, outcome}
use Rattle.unit.specs.OneTick.{match_of, matched, initialise, step_request, request_served, match_served, served, slot_served, clocked, matches, service_in, tick, after_ticks}
use Rattle.unit.specs.Gate.{place, is_place, is_written, in_list, is_free, is_stepper, is_timed, may_initialise, otherwise_zero, span_good, is_ready, group_ready, shows_pattern, pattern_good, ramp_good, quick_good, target_good, advance_good, requested, ask_initialise, ask_step, ask_channel, and_then, ask_channels, verdict_of, keeps_or_free, ask_register, ask_word, ask_place, gate, requested_one, stored, done}
use Rattle.unit.specs.Calls.{pin_words, word_at, read_of, answered_by, write_of, advance_of, after, run}
use Rattle.words.specs.Choice.{ask}
use Rattle.words.specs.Clock.{since, due, later, time_by, onward, ticks_a_count, ticks_until, same_timer}
use Rattle.words.specs.Field.{field, with_field, bit_of}
use Rattle.words.specs.Rotation.{rotated_right, rotated_left}
use Rattle.slots.specs.Slots.{ticked, slot_level, begins, found, highest, chosen}
use Rattle.slots.specs.Slots as slots
use Rattle.motor.specs.Stepping.{period, ahead, accelerates, choice, test, turn, on_request, on_match, beside}
use Rattle.motor.specs.Group.{bound}
use Rattle.unit.specs.Answers.{reading_number, reading_word, verdict_number}
use Rattle.unit.specs.Pending.{is_matched, is_wanted, wanted, asks_of}
use Rattle.unit.specs.Quiet.{until_due, waits, quiet_at, quiet_below}
use Rattle.unit.specs.Rows.{initialised, by_tcr1, by_tcr2, ready, at_rest, goes, goes_right, winds, film, pictures, rightward, slowly, among_others, shows, refuses, kinds, first_step, waiting, pair, tells, Rows}

pub rows : Rows
unfolding phase_from flags_of stands_for time_after set_after latched channel_at with_words with_reg with_timers with_pins with_channel each all any cfsr_of hsrr_of cpr_of reg function request with_slots with_request priority status with_status with_pin channel with_initialised with_set_up with_level with_phase with_binding with_late kind_in word with_word exists channel_control pin_control position target mod_count next_rate top last cntl0 cntl1 size motor_of stepping reaches is_bound pin_out pins_out next_count turned_once prepared match_set stepped outcome match_of matched initialise step_request request_served match_served served slot_served clocked matches service_in tick after_ticks place is_place is_written in_list is_free is_stepper is_timed may_initialise otherwise_zero span_good is_ready group_ready shows_pattern pattern_good ramp_good quick_good target_good advance_good requested ask_initialise ask_step ask_channel and_then ask_channels verdict_of keeps_or_free ask_register ask_word ask_place gate requested_one stored done answered_by write_of advance_of after run ask since due later time_by onward ticks_a_count ticks_until same_timer field with_field bit_of rotated_right rotated_left period ahead accelerates choice test turn on_request on_match beside bound initialised by_tcr1 by_tcr2 ready at_rest goes goes_right winds film pictures rightward slowly among_others kinds verdict_number refuses shows pin_words first_step is_matched is_wanted wanted asks_of until_due waits quiet_at quiet_below ticked slot_level begins found highest chosen slots.served waiting pair word_at read_of reading_number reading_word tells
rows =
    record {
      row-right = refl;
      row-left = refl;
      row-slow = refl;
      row-quiet = (refl, refl);
      row-kinds = (refl, refl, refl, refl);
      row-pins = refl;
      row-beside = (refl, refl, refl);
      row-stored = refl;
      row-wrap = (refl, refl);
      row-behind = refl;
      row-question-1 = (refl, refl, refl, refl);
      row-question-2 = (refl, refl, refl, refl);
      row-question-3 = refl;
      row-question-4 = (refl, refl, refl, refl, refl);
      row-question-5 = (refl, refl, refl, refl, refl);
      row-question-6 = (refl, refl);
      row-question-7 = (refl, refl, refl, refl);
      row-question-8 = (refl, refl, refl, refl);
      row-14 = (refl, refl, refl, refl);
      row-question-9 = (refl, refl, refl, refl);
      row-question-10 = (refl, refl, refl, refl);
      row-functions = (refl, refl);
      row-priorities = (refl, refl, refl, refl);
      row-one-a-tick = (refl, refl);
      row-pair = refl;
      row-late = (refl, refl, refl, refl, refl, refl);
      row-late-move = refl;
      row-late-slow = refl;
      row-late-read-only = (refl, refl, refl, refl, refl, refl, refl);
      row_word = (refl, refl, refl);
      row-writes = (refl, refl, refl);
    }
