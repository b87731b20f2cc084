-- What holds of the printed bytes, beside what they are.
use Rattle.std.specs.Prelude.{ℕ, ◌≤◌, length}
use Rattle.unit.specs.declared.State.{State}
use Rattle.wave.specs.Changes.{changes}
use Rattle.wave.specs.Header.{header}

-- how long the changes of one tick and the header can be
abbrev pub Short : Type 0
Short = ((tick : ℕ) (old s : State) → length (changes tick old s) ≤ 413) × (length header ≤ 3000)
