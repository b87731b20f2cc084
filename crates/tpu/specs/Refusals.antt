-- The number of a refusal is that of a question, so it is neither 0 nor the number for a wrong length.
-- Document 01, "Questions at the gate"; 14 is of paper 02, #107.
use Rattle.std.specs.Prelude.{ℕ, ◌≤◌, List, ◌⊎◌, ◌≡◌, Err, Ok}
use Rattle.unit.specs.declared.State.{State}
use Rattle.unit.specs.Calls.{read_of, write_of, advance_of}
use Rattle.unit.specs.Refusals.{refusal_number, Answer, Reading}

-- the questions are 1 to 10, and 14
abbrev pub Question : ℕ → Type 0
Question n = (1 ≤ n) × ((n ≤ 10) ⊎ (n ≡ 14))

abbrev pub Numbered : Answer → Type 0
Numbered (Ok u) = Unit {0}
Numbered (Err r) = Question (refusal_number r)

abbrev pub NumberedRead : Reading → Type 0
NumberedRead (Ok w) = Unit {0}
NumberedRead (Err r) = Question (refusal_number r)

-- of every call, on every state
pub record Refusals : Type 0 where
  pub read : (s : State) (a : ℕ) → NumberedRead (read_of s a)
  pub write : (s : State) (a v : ℕ) → Numbered (write_of s a v).answer
  pub advance : (s : State) (n : ℕ) (lent : List ℕ) → Numbered (advance_of s n lent).answer
