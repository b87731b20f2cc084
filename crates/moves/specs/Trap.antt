-- Why targets count from reset: two runs of which the row feels the same, in which one request sets the motor going and no target is
-- written while bound from that request on; yet their pins differ right after its first service. One motor was at rest when the target
-- was written; the other, served two ticks later, was not, and went on to it.
use Rattle.std.specs.Prelude.{ℕ, true, false, List, [], ◌∷◌, ◌++◌, ◌≡◌, replicate}
use Rattle.unit.specs.TheUnit.{reset_state, pin}
use Rattle.history.specs.Moments.{Act, Ticks, Writes, acts, through, SetsGoing}
use Rattle.isolation.specs.Row.{felt}
use Rattle.isolation.specs.OneMove.{Untouched}
use Rattle.moves.specs.Moves.{row, by_itself, among_others}

-- the first move takes 128 counts; a target is written 130 ticks after its request, and the motor is asked again 150 ticks later
abbrev pub later : ℕ → List Act
later v = Writes 0xe1a v ∷ (replicate 130 Ticks ++ (Writes 0xf46 2 ∷ replicate 150 Ticks))

abbrev pub early : List Act
early = acts by_itself ++ later 0x0300

abbrev pub late : List Act
late = acts among_others ++ later 0x030a

-- asked again, and served in the next tick
abbrev pub move : List Act
move = Writes 0xe1a 0x0300 ∷ (Ticks ∷ [])

pub record Trap : Type 0 where
  pub same-felt : felt row reset_state early ≡ felt row reset_state late
  pub starts : SetsGoing 4 0xe1a 0x0300 (through reset_state early) × SetsGoing 4 0xe1a 0x0300 (through reset_state late)
  pub untouched : Untouched row (through reset_state early) move × Untouched row (through reset_state late) move
  pub pins : (pin (through reset_state (early ++ move)) 5 ≡ false) × (pin (through reset_state (late ++ move)) 5 ≡ true)
