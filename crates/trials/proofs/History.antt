-- The history of specs/History, computed: it meets what term 3 asks for.
use Prim.Native.Nat.{◌≤◌}
use native.Mathlib.Omega.{arith}
use mathlib.Core.Bool.{Bool, true, not, ◌&&◌}
use mathlib.Core.List.{List, [], ◌∷◌, ◌++◌}
use mathlib.Core.Path.{◌≡◌, refl}
use lib.Dec.{eqb}
use borrow.Author.Tests.{eqb-true}
use Rattle.unit.specs.TheUnit.{reset_state, phase_from, flags_of, stands_for, time_after, set_after, latched, channel_at, with_words, with_reg, with_timers, with_pins, with_channel, each, all, any, cfsr_of, hsrr_of, cpr_of, reg, function, request, with_slots, with_request, priority, status, with_status, with_pin, channel, with_initialised, with_set_up, with_level, with_phase, with_binding, with_late, kind_in, word, with_word, exists, channel_control, pin_control, position, target, mod_count, next_rate, top, last, cntl0, cntl1, size, motor_of, stepping, reaches, is_bound}
use Rattle.unit.specs.Stepping.{pin_out, pins_out, next_count, turned_once, prepared, match_set, stepped, outcome}
use Rattle.unit.specs.OneTick.{match_of, matched, initialise, step_request, request_served, match_served, served, slot_served, clocked, matches, service_in, tick, after_ticks}
use Rattle.unit.specs.Gate.{place, is_written, in_list, is_free, is_stepper, is_timed, may_initialise, otherwise_zero, span_good, is_ready, group_ready, shows_pattern, pattern_good, ramp_good, quick_good, target_good, advance_good, requested, ask_initialise, ask_step, ask_channel, and_then, ask_channels, verdict_of, keeps_or_free, ask_register, ask_word, ask_place, gate, requested_one, stored, done}
use Rattle.unit.specs.Pending.{is_matched, is_wanted, wanted, asks_of}
use Rattle.slots.specs.Slots.{ticked, slot_level, begins, found, highest, chosen}
use Rattle.slots.specs.Slots as slots
use Rattle.unit.specs.Calls.{answered_by, write_of, advance_of, is_taken}
use Rattle.history.specs.Moments.{Writes, acts_of, acts, does, through, Typed, priority_of, see, is_target_of, is_step_of, event_of, moments, SetsGoing}
use Rattle.history.specs.Term3.{in_ticks, longest_step, Cut, at_count, at_start, moments_gone, moments_now}
use Rattle.words.specs.Choice.{ask}
use Rattle.words.specs.Clock.{since, due, later, time_by, onward, ticks_a_count, ticks_until, same_timer}
use Rattle.words.specs.Field.{field, with_field, bit_of}
use Rattle.words.specs.Rotation.{rotated_right, rotated_left}
use Rattle.motor.specs.Stepping.{period, ahead, accelerates, choice, test, turn, on_request, on_match, beside}
use Rattle.motor.specs.Group.{bound}
use Rattle.motor.specs.Track.{stop_place, distance}
use Rattle.motor.specs.Count.{longest_wait, steps, moves_of, moves_in, latest, stop_of, steps_of, ticks_of, ticks_in, is_target, Moment, UnderWay, Keeps, Undisturbed, after as seen-after}
use Rattle.trials.specs.History.{set_up, on_the_way, after, history, Met}
use Rattle.unit.proofs.Tests.{not_yes}
use Rattle.words.proofs.ChoiceLaws.{and_left, and_right}
use Rattle.history.proofs.Calls.{all_words, typed}
use Rattle.history.proofs.Term3.{term-3}

-- tests over moments, which compute, and what they say
unfoldable pub all_bound : List Moment → Bool
all_bound [] = true
all_bound (m ∷ ms) = m.is.bound && all_bound ms

unfoldable pub all_kept : List Moment → Bool
all_kept [] = true
all_kept (m ∷ ms) = eqb m.was.level 1 && all_kept ms

unfoldable calm : List Moment → Bool
calm [] = true
calm (m ∷ ms) = eqb m.was.level 1 && (not (is_target m.event) && calm ms)

pub under-way : (ms : List Moment) → all_bound ms ≡ true → UnderWay ms
unfolding all_bound UnderWay
under-way [] e = tt
under-way (m ∷ ms) e = (λ t. and_left m.is.bound (all_bound ms) e, under-way ms (and_right m.is.bound (all_bound ms) e))

pub kept-all : (ms : List Moment) → all_kept ms ≡ true → Keeps 1 ms
unfolding all_kept Keeps
kept-all [] e = tt
kept-all (m ∷ ms) e = (eqb-true m.was.level 1 (and_left (eqb m.was.level 1) (all_kept ms) e), kept-all ms (and_right (eqb m.was.level 1) (all_kept ms) e))

undisturbed : (ms : List Moment) → calm ms ≡ true → Undisturbed 1 ms
unfolding calm Undisturbed
undisturbed [] e = tt
undisturbed (m ∷ ms) e =
    let r : (not (is_target m.event) && calm ms) ≡ true = and_right (eqb m.was.level 1) (not (is_target m.event) && calm ms) e in
    λ b. (eqb-true m.was.level 1 (and_left (eqb m.was.level 1) (not (is_target m.event) && calm ms) e), not_yes (is_target m.event) (and_left (not (is_target m.event)) (calm ms) r), undisturbed ms (and_right (not (is_target m.event)) (calm ms) r))

-- what is computed of the history, in one go
record Computed : Type 0 where
  words : all_words history.calls ≡ true
  whole : acts history.calls ≡ history.before ++ (Writes 0xe1a 0x0300 ∷ (history.gone ++ (history.now ++ [])))
  starts : SetsGoing 4 0xe1a 0x0300 (through reset_state (acts set_up))
  bound : all_bound (moments_gone history) ≡ true
  kept : all_kept (moments_gone history) ≡ true
  calm : calm (moments_now history) ≡ true
  -- so many ticks are enough, and there are more
  promised : longest_wait (longest_step 4 (at_count history)) (steps (see 4 (at_start history)) (moments_gone history)) ≡ 481
  ticks : ticks_in (moments_now history) ≡ 700

computed : Computed
unfolding is_matched is_wanted wanted asks_of ticked slot_level begins found highest chosen slots.served with_slots priority slot_served matches service_in quick_good phase_from flags_of stands_for time_after set_after latched channel_at with_words with_reg with_timers with_pins with_channel each all any cfsr_of hsrr_of cpr_of reg function request with_request status with_status with_pin channel with_initialised with_set_up with_level with_phase with_binding with_late kind_in word with_word exists channel_control pin_control position target mod_count next_rate top last cntl0 cntl1 size motor_of stepping reaches is_bound pin_out pins_out next_count turned_once prepared match_set stepped outcome match_of matched initialise step_request request_served match_served served clocked tick after_ticks place is_written in_list is_free is_stepper is_timed may_initialise otherwise_zero span_good is_ready group_ready shows_pattern pattern_good ramp_good target_good advance_good requested ask_initialise ask_step ask_channel and_then ask_channels verdict_of keeps_or_free ask_register ask_word ask_place gate requested_one stored done answered_by write_of advance_of acts_of acts does through Typed priority_of see is_taken is_target_of is_step_of event_of moments in_ticks longest_step ask since due later time_by onward ticks_a_count ticks_until same_timer field with_field bit_of rotated_right rotated_left period ahead accelerates choice test turn on_request on_match beside bound stop_place distance moves_of moves_in latest stop_of steps_of ticks_of ticks_in is_target set_up on_the_way after history all_bound all_kept calm seen-after all_words
computed =
    record {
      words = refl;
      whole = refl;
      starts = record { step = refl; taken = refl; resting = refl };
      bound = refl;
      kept = refl;
      calm = refl;
      promised = refl;
      ticks = refl;
    }

cut : Cut history
unfolding history
cut =
    record {
      listed = typed _ computed.words;
      whole = computed.whole;
      starts = computed.starts;
      under-way = under-way (moments_gone history) computed.bound;
    }

pub met : Met
unfolding history
met =
    let kept : Keeps 1 (moments_gone history) = kept-all (moments_gone history) computed.kept in
    let calmly : Undisturbed 1 (moments_now history) = undisturbed (moments_now history) computed.calm in
    let enough : longest_wait (longest_step 4 (at_count history)) (steps (see 4 (at_start history)) (moments_gone history)) ≤ ticks_in (moments_now history) =
    omega (arith, computed.promised, computed.ticks) in
    record {
      cut = cut;
      keeps = kept;
      undisturbed = calmly;
      enough = enough;
      arrives = term-3.arrives history cut 1 (omega arith) kept calmly enough;
    }
