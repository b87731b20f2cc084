-- What holds of the drawn bytes, beside what they are.
use Rattle.std.specs.Prelude.{◌≡◌, ℕ, ◌*◌, ◌≤◌, List, length, take}
use Rattle.unit.specs.declared.State.{State}
use Rattle.drawing.specs.Drawing.{drawing, seen_after}

-- nothing that a line draws is longer than 4,096 ticks of 413 bytes, so a buffer of that size (MAX_DRAWN) cuts none
abbrev pub NoneLonger : Type 0
NoneLonger = (seen s : State) (ticks : ℕ) (line : List ℕ) → length (drawing seen s ticks line) ≤ 4096 * 413

-- a line cut after 11 bytes or more draws what the whole line draws; tpu_wave keeps 16. State and ticks: `CutSame` of the script
abbrev pub CutSame : Type 0
CutSame =
    (k : ℕ) → 11 ≤ k → (seen s : State) (ticks : ℕ) (line : List ℕ) →
    (seen_after seen s (take k line) ≡ seen_after seen s line)
    × (drawing seen s ticks (take k line) ≡ drawing seen s ticks line)
