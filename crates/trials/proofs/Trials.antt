-- The trials of document 01 that are marked to be proved, computed: their runs, of some thousand ticks, in leaps.
use mathlib.Core.Bool.{Bool, true, ◌&&◌}
use mathlib.Core.List.{List, [], ◌∷◌}
use mathlib.Core.Path.{◌≡◌, refl, sym, ◌∙◌}
use Rattle.unit.specs.TheUnit.{phase_from, flags_of, stands_for, time_after, set_after, latched, channel_at, with_words, with_reg, with_timers, with_pins, with_channel, each, all, any, cfsr_of, hsrr_of, cpr_of, reg, function, request, with_slots, with_request, priority, status, with_status, with_pin, channel, with_initialised, with_set_up, with_level, with_phase, with_binding, with_late, kind_in, word, with_word, exists, channel_control, pin_control, position, target, mod_count, next_rate, top, last, cntl0, cntl1, size, motor_of, stepping, reaches, is_bound}
use Rattle.unit.specs.Stepping.{pin_out, pins_out, next_count, turned_once, prepared, match_set, stepped, outcome}
use Rattle.unit.specs.OneTick.{match_of, matched, initialise, step_request, request_served, match_served, served, slot_served, clocked, matches, service_in, tick, after_ticks}
use Rattle.unit.specs.Pending.{is_matched, is_wanted, wanted, asks_of}
use Rattle.slots.specs.Slots.{slot_level, idled, begins, found, highest, chosen}
use Rattle.slots.specs.Slots as slots
use Rattle.unit.specs.Quiet.{until_due, waits, quiet_at, quiet_below}
use Rattle.unit.specs.Gate.{place, is_written, in_list, is_free, is_stepper, is_timed, may_initialise, otherwise_zero, span_good, is_ready, group_ready, shows_pattern, pattern_good, ramp_good, quick_good, target_good, advance_good, requested, ask_initialise, ask_step, ask_channel, and_then, ask_channels, verdict_of, keeps_or_free, ask_register, ask_word, ask_place, gate, requested_one, stored, done}
use Rattle.unit.specs.Calls.{answered_by, write_of, advance_of, after, run}
use Rattle.unit.specs.Answers.{verdict_number}
use Rattle.words.specs.Choice.{ask}
use Rattle.words.specs.Clock.{since, due, later, time_by, onward, ticks_a_count, ticks_until, same_timer}
use Rattle.words.specs.Field.{field, with_field, bit_of}
use Rattle.words.specs.Rotation.{rotated_right, rotated_left}
use Rattle.motor.specs.Stepping.{period, ahead, accelerates, choice, test, turn, on_request, on_match, beside}
use Rattle.motor.specs.Group.{bound}
use Rattle.trials.specs.Trials.{ready, rests, goes, ticked, same_list, same, Trial, holds, table, AllHold, Trials}
use Rattle.words.proofs.ChoiceLaws.{and_left, and_right}
use Rattle.trials.proofs.Leaps.{quiet_of, onward_by, look, leapt, holds_leapt, leapt-holds}

-- the table as one test, which computes
unfoldable all_hold : List Trial → Bool
all_hold [] = true
all_hold (t ∷ ts) = holds_leapt t && all_hold ts

all_hold_lem : (ts : List Trial) → all_hold ts ≡ true → AllHold ts
unfolding all_hold AllHold
all_hold_lem [] e = tt
all_hold_lem (t ∷ ts) e = (sym (leapt-holds t) ∙ and_left (holds_leapt t) (all_hold ts) e, all_hold_lem ts (and_right (holds_leapt t) (all_hold ts) e))

computed : all_hold table ≡ true
unfolding slot_level slots.ticked idled begins found highest chosen slots.served asks_of onward_by with_slots priority slot_served matches service_in quick_good phase_from flags_of stands_for time_after set_after latched channel_at with_words with_reg with_timers with_pins with_channel each all any cfsr_of hsrr_of cpr_of reg function request with_request status with_status with_pin channel with_initialised with_set_up with_level with_phase with_binding with_late kind_in word with_word exists channel_control pin_control position target mod_count next_rate top last cntl0 cntl1 size motor_of stepping reaches is_bound pin_out pins_out next_count turned_once prepared match_set stepped outcome match_of matched initialise step_request request_served match_served served clocked tick after_ticks place is_written in_list is_free is_stepper is_timed may_initialise otherwise_zero span_good is_ready group_ready shows_pattern pattern_good ramp_good target_good advance_good requested ask_initialise ask_step ask_channel and_then ask_channels verdict_of keeps_or_free ask_register ask_word ask_place gate requested_one stored done answered_by write_of advance_of after run ask since due later time_by onward ticks_a_count ticks_until same_timer field with_field bit_of rotated_right rotated_left period ahead accelerates choice test turn on_request on_match beside bound ready rests goes verdict_number ticked same_list same holds table wanted is_wanted is_matched until_due waits quiet_at quiet_below quiet_of look leapt holds_leapt all_hold
computed = refl

pub trials : Trials
trials = all_hold_lem table computed
