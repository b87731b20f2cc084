-- A history that meets the premises of paper 02, #108: two motors whose first matches fall due in one tick, so that one is served late.
use Rattle.std.specs.Prelude.{◌≤◌, List, [], ◌∷◌, ◌++◌, ◌≡◌, replicate}
use Rattle.words.specs.declared.Timer.TheVariants.{Tcr1}
use Rattle.motor.specs.Count.{Keeps}
use Rattle.unit.specs.TheUnit.{channel}
use Rattle.unit.specs.OneTick.{tick}
use Rattle.unit.specs.Calls.{Call, Write, Advance}
use Rattle.unit.specs.Readings.{late_word}
use Rattle.history.specs.Moments.{acts}
use Rattle.history.specs.Term3.{Run, at_count, moments_gone, Cut}
use Rattle.history.specs.Late.{ServesMatch}

-- motors on channels 4, 5 and 6, 7, both low, initialised in four ticks; P is 129 counts for the first and 128 for the second
unfoldable pub pair_set_up : List Call
pair_set_up =
    Write 0xe10 0xdddd ∷ Write 0xe1e 0x5500
    ∷ Write 0xf42 0x8421 ∷ Write 0xf40 0x0081 ∷ Write 0xf52 0x1234 ∷ Write 0xf50 0x0082
    ∷ Write 0xf62 0x8421 ∷ Write 0xf60 0x0081 ∷ Write 0xf72 0x1234 ∷ Write 0xf70 0x0082
    ∷ Write 0xe1a 0xaa00 ∷ Advance 4 (0 ∷ 0 ∷ 0 ∷ 0 ∷ [])
    ∷ Write 0xf46 4 ∷ Write 0xf48 1 ∷ Write 0xf4a 0x0105 ∷ Write 0xf56 129
    ∷ Write 0xf66 4 ∷ Write 0xf68 1 ∷ Write 0xf6a 0x0107 ∷ Write 0xf76 128 ∷ []

-- one word sets both going: 4 is served in tick 5 since reset and 6 in tick 6, so both matches fall due in tick 134, the last of these 130
unfoldable pub at_once : Run
at_once =
    record {
      calls = pair_set_up ++ (Write 0xe1a 0x3300 ∷ Advance 130 (replicate 130 0) ∷ []);
      c = 6;
      a = 0xe1a;
      v = 0x3300;
      before = acts pair_set_up;
      gone = acts (Advance 130 (replicate 130 0) ∷ []);
      now = [];
      rest = [];
    }

-- the premises hold; 4 was served on time in that tick, and the next serves 6, one count late
pub record AtOnce : Type 0 where
  pub cut : Cut at_once
  pub keeps : Keeps 1 (moments_gone at_once)
  pub serves : ServesMatch 6 (at_count at_once)
  pub timer : (channel (at_count at_once) 6).timer ≡ Tcr1
  pub first : late_word 4 (at_count at_once) ≡ 0
  pub second : late_word 6 (tick (at_count at_once)) ≡ 1
  pub bounded : late_word 6 (tick (at_count at_once)) ≤ 111
