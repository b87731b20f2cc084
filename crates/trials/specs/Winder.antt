-- A winder on TCR2 that meets the premises of `comes_home`, and how long it takes. Paper 02, #106.
use Rattle.std.specs.Prelude.{true, false, List, [], ◌∷◌, ◌≡◌, replicate}
use Rattle.motor.specs.Count.{longest_wait}
use Rattle.unit.specs.declared.State.{State}
use Rattle.unit.specs.TheUnit.{reset_state, is_bound}
use Rattle.unit.specs.OneTick.{after_ticks}
use Rattle.unit.specs.Calls.{Call, Write, Advance}
use Rattle.history.specs.Moments.{Ticks, Writes, acts, does, through}
use Rattle.history.specs.Term3.{longest_step, Homed}

-- channels 4 and 5 by TCR2, P = 128 counts at every rate, nine places to go; seven ticks have passed since reset, so the request is served
-- in the tick in which TCR2 rises, and no period is cut short
unfoldable pub ready_to_wind : List Call
ready_to_wind =
    Write 0xe10 0x00dd ∷ Write 0xe1e 0x0500 ∷ Write 0xf42 0x8421 ∷ Write 0xf40 0x00e1 ∷ Write 0xf52 0x1234 ∷ Write 0xf50 0x00e2
    ∷ Write 0xe1a 0x0a00 ∷ Advance 7 (replicate 7 0) ∷ Write 0xf46 9 ∷ Write 0xf48 0x0001 ∷ Write 0xf4a 0x0105 ∷ Write 0xf56 128 ∷ []

-- right after the request
unfoldable pub winding : State
winding = does (Writes 0xe1a 0x0300) (through reset_state (acts ready_to_wind))

pub record Winds : Type 0 where
  -- the promise for nine places, 1 + 8 × 128 × (9 + 1) + 112 + 112, and that it is kept
  pub promised : longest_wait (longest_step 4 winding) 9 ≡ 10465
  pub home : Homed 4 winding (replicate 10465 Ticks)
  -- in fact it arrives in tick 9,217, 1 + 8 × 128 × 9. Seven ticks for each count would promise 9,185, 1 + 7 × 128 × (9 + 1) + 224, and be wrong
  pub under-way : is_bound (after_ticks 9185 winding) 4 ≡ true
  pub not-before : is_bound (after_ticks 9216 winding) 4 ≡ true
  pub arrived : is_bound (after_ticks 9217 winding) 4 ≡ false
