-- The number of each answer: 0 where the call is taken, else that of the question that said no. And the word that a read gives.
-- Document 01, "Questions at the gate".
use Rattle.std.specs.Prelude.{ℕ, Err, Ok}
use Rattle.unit.specs.Refusals.{refusal_number, Answer, Reading, Verdict}

-- of a read
unfoldable pub reading_number : Reading → ℕ
reading_number (Ok w) = 0
reading_number (Err r) = refusal_number r

-- where a read is refused 0 stands for the word that it lacks
unfoldable pub reading_word : Reading → ℕ
reading_word (Ok w) = w
reading_word (Err r) = 0

-- of what the gate says of a write
unfoldable pub verdict_number : Verdict → ℕ
verdict_number (Ok d) = 0
verdict_number (Err r) = refusal_number r

-- of a write or an advance
unfoldable pub answer_number : Answer → ℕ
answer_number (Ok u) = 0
answer_number (Err r) = refusal_number r
