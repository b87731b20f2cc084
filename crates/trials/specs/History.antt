-- A history that meets the premises of term 3: two motors under way, a target put behind the motor, refused calls in between.
use Rattle.std.specs.Prelude.{◌≤◌, List, [], ◌∷◌, ◌++◌, replicate}
use Rattle.motor.specs.Count.{Keeps, Undisturbed, ticks_in, longest_wait, steps, Arrives}
use Rattle.unit.specs.Calls.{Call, Read, Write, Advance}
use Rattle.history.specs.Moments.{acts, see}
use Rattle.history.specs.Term3.{longest_step, Run, at_start, at_count, moments_gone, moments_now, Cut}

-- motors on channels 4, 5 and 8, 9; the second is set going to the left
unfoldable pub set_up : List Call
set_up =
    Write 0xe10 0x00dd ∷ Write 0xe1e 0x0500 ∷ Write 0xe0e 0x00dd ∷ Write 0xe1c 0x0005
    ∷ Write 0xf42 0x8421 ∷ Write 0xf40 0x0081 ∷ Write 0xf52 0x1234 ∷ Write 0xf50 0x0082
    ∷ Write 0xf82 0x8421 ∷ Write 0xf80 0x0081 ∷ Write 0xf92 0x1234 ∷ Write 0xf90 0x0082
    ∷ Write 0xe1a 0x0a00 ∷ Write 0xe18 0x000a ∷ Advance 4 (0 ∷ 0 ∷ 0 ∷ 0 ∷ [])
    ∷ Write 0xf44 0 ∷ Write 0xf46 10 ∷ Write 0xf48 1 ∷ Write 0xf4a 0x0105 ∷ Write 0xf54 0 ∷ Write 0xf56 128
    ∷ Write 0xf84 20 ∷ Write 0xf86 0 ∷ Write 0xf88 1 ∷ Write 0xf8a 0x0109 ∷ Write 0xf94 0 ∷ Write 0xf96 129
    ∷ Write 0xe18 0x0003 ∷ Advance 3 (0 ∷ 0 ∷ 0 ∷ []) ∷ []

-- fourteen ticks into the run a write of word 5 is refused, and the target becomes 0, behind the motor
unfoldable pub on_the_way : List Call
on_the_way = Advance 14 (replicate 14 0) ∷ Write 0xf4a 0 ∷ Write 0xf46 0 ∷ []

-- from that target on: a read, an advance that is refused, and seven hundred ticks
unfoldable pub after : List Call
after = Read 0xe20 ∷ Advance 4097 [] ∷ Advance 700 (replicate 700 0) ∷ []

unfoldable pub history : Run
history =
    record {
      calls = set_up ++ (Write 0xe1a 0x0300 ∷ (on_the_way ++ after));
      c = 4;
      a = 0xe1a;
      v = 0x0300;
      before = acts set_up;
      gone = acts on_the_way;
      now = acts after;
      rest = [];
    }

-- the premises hold, and so a tick of the seven hundred leaves the motor standing at 0
pub record Met : Type 0 where
  pub cut : Cut history
  pub keeps : Keeps 1 (moments_gone history)
  pub undisturbed : Undisturbed 1 (moments_now history)
  pub enough : longest_wait (longest_step 4 (at_count history)) (steps (see 4 (at_start history)) (moments_gone history)) ≤ ticks_in (moments_now history)
  pub arrives : Arrives (see 4 (at_start history)) (moments_gone history) (moments_now history)
