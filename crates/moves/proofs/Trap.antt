-- `Trap`, computed.
use mathlib.Core.Bool.{Bool, true, false}
use mathlib.Core.List.{List, ◌∷◌, ◌++◌}
use mathlib.Core.Path.{◌≡◌, refl, sym, ◌∙◌}
use Rattle.unit.specs.TheUnit.{reset_state, phase_from, flags_of, stands_for, time_after, set_after, latched, channel_at, with_words, with_reg, with_timers, with_pins, with_channel, each, all, any, cfsr_of, hsrr_of, cpr_of, reg, function, request, with_slots, with_request, priority, status, with_status, with_pin, channel, with_initialised, with_set_up, with_level, with_phase, with_binding, with_late, kind_in, word, with_word, exists, channel_control, pin_control, position, target, mod_count, next_rate, top, last, cntl0, cntl1, size, motor_of, stepping, reaches, is_bound, pin}
use Rattle.unit.specs.Stepping.{pin_out, pins_out, next_count, turned_once, prepared, match_set, stepped, outcome}
use Rattle.unit.specs.OneTick.{match_of, matched, initialise, step_request, request_served, match_served, served, slot_served, clocked, matches, service_in, tick}
use Rattle.unit.specs.Pending.{is_matched, is_wanted, wanted, asks_of}
use Rattle.slots.specs.Slots.{ticked, slot_level, begins, found, highest, chosen}
use Rattle.slots.specs.Slots as slots
use Rattle.unit.specs.Gate.{place, is_written, in_list, is_free, is_stepper, is_timed, may_initialise, otherwise_zero, span_good, is_ready, group_ready, shows_pattern, pattern_good, ramp_good, quick_good, target_good, advance_good, requested, ask_initialise, ask_step, ask_channel, and_then, ask_channels, verdict_of, keeps_or_free, ask_register, ask_word, ask_place, gate, requested_one, stored, done}
use Rattle.unit.specs.Calls.{answered_by, write_of, is_taken}
use Rattle.words.specs.Choice.{ask}
use Rattle.words.specs.Clock.{since, due, later, time_by, onward, same_timer}
use Rattle.words.specs.Field.{field, with_field, bit_of}
use Rattle.words.specs.Rotation.{rotated_right, rotated_left}
use Rattle.motor.specs.Stepping.{period, ahead, accelerates, choice, test, turn, on_request, on_match, beside}
use Rattle.motor.specs.Group.{bound}
use Rattle.history.specs.Moments.{Act, acts_of, acts, does, through, is_step_of, SetsGoing}
use Rattle.isolation.specs.Row.{Felt, Passes, Word, Function, Priority, Request, in_row, gather, new_function, new_priority, new_request, felt_at, felt_of, felt}
use lib.ListN.{replicate}
use Rattle.moves.specs.Moves.{row}
use Rattle.moves.specs.Trap.{early, late, move, Trap}
use Rattle.moves.proofs.Decided.{no_aim, leaves_targets, leaves_all, untouched}

-- what the row feels of both
abbrev heard : List Felt
heard =
    Function 4 13 ∷ Function 5 13 ∷ Priority 4 3 ∷ Priority 5 3 ∷ Word 4 0 0x0081 ∷ Word 4 1 0xcccc ∷ Word 4 4 0x0001 ∷ Word 4 5 0x0105
    ∷ Word 5 0 0x0082 ∷ Word 5 1 0x6666 ∷ Word 5 3 128 ∷ Request 4 2 ∷ Request 5 2 ∷ Passes ∷ Passes ∷ Word 4 3 1 ∷ Request 4 3
    ∷ (replicate 130 Passes ++ (Word 4 3 2 ∷ replicate 150 Passes))

record Computed (before : List Act) (level : Bool) : Type 0 where
  heard : felt row reset_state before ≡ heard
  starts : SetsGoing 4 0xe1a 0x0300 (through reset_state before)
  leaves : leaves_all row (through reset_state before) move ≡ true
  pin : pin (through reset_state (before ++ move)) 5 ≡ level

computed : Computed early false × Computed late true
unfolding is_matched is_wanted wanted asks_of ticked slot_level begins found highest chosen slots.served phase_from flags_of stands_for time_after set_after latched channel_at with_words with_reg with_timers with_pins with_channel each all any cfsr_of hsrr_of cpr_of reg function request with_slots with_request priority status with_status with_pin channel with_initialised with_set_up with_level with_phase with_binding with_late kind_in word with_word exists channel_control pin_control position target mod_count next_rate top last cntl0 cntl1 size motor_of stepping reaches is_bound pin_out pins_out next_count turned_once prepared match_set stepped outcome match_of matched initialise step_request request_served match_served served slot_served clocked matches service_in tick place is_written in_list is_free is_stepper is_timed may_initialise otherwise_zero span_good is_ready group_ready shows_pattern pattern_good ramp_good quick_good target_good advance_good requested ask_initialise ask_step ask_channel and_then ask_channels verdict_of keeps_or_free ask_register ask_word ask_place gate requested_one stored done answered_by write_of ask since due later time_by onward same_timer field with_field bit_of rotated_right rotated_left period ahead accelerates choice test turn on_request on_match beside bound is_taken in_row felt felt_of felt_at gather new_function new_priority new_request acts_of acts does through is_step_of no_aim leaves_targets leaves_all pin
computed = (
  record { heard = refl; starts = record { step = refl; taken = refl; resting = refl }; leaves = refl; pin = refl },
  record { heard = refl; starts = record { step = refl; taken = refl; resting = refl }; leaves = refl; pin = refl },
)

pub trap : Trap
trap =
    let x : Computed early false = computed.0 in
    let y : Computed late true = computed.1 in
    record {
      same-felt = x.heard ∙ sym y.heard;
      starts = (x.starts, y.starts);
      untouched = (untouched row (through reset_state early) move x.leaves, untouched row (through reset_state late) move y.leaves);
      pins = (x.pin, y.pin);
    }
