-- What holds of the replies, beside what they are.
use Rattle.std.specs.Prelude.{ℕ, ◌+◌, ◌*◌, ◌≤◌, List, ◌≡◌, length, take}
use Rattle.ramp_lines.specs.Replying.{reply_to}

-- no reply is longer than a letter, two words and 14 periods of 5 digits, so a buffer of that size (MAX_REPLY) cuts none
abbrev pub NoneLonger : Type 0
NoneLonger = (line : List ℕ) → length (reply_to line) ≤ 12 + 14 * 6

-- a line cut after 64 bytes is answered as the whole line: none of more than 55 bytes asks for a ramp
abbrev pub CutSame : Type 0
CutSame = (line : List ℕ) → reply_to (take 64 line) ≡ reply_to line
