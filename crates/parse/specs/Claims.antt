-- What holds of a line, beside what it asks. Document 01, "The script program".
use Rattle.std.specs.Prelude.{ℕ, ◌≤◌, ◌≡◌, List, take}
use Rattle.parse.specs.Parsing.{command_of}

-- a line cut after 11 bytes or more asks what the whole line asks: no form has more than 10 bytes. The programs keep 16 or more.
abbrev pub CutSame : Type 0
CutSame = (k : ℕ) → 11 ≤ k → (line : List ℕ) → command_of (take k line) ≡ command_of line
