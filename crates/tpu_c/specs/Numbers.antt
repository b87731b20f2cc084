-- What the calls for C answer, and the lent words after them, for lists of any length and content.
-- Document 01, "The unit" and "Questions at the gate".
use Rattle.std.specs.Prelude.{ℕ, ◌+◌, ◌*◌, List}
use Rattle.words.specs.Choice.{pick}
use Rattle.words.specs.Field.{bit_value}
use Rattle.unit.specs.declared.Answered.{Answered}
use Rattle.unit.specs.declared.State.{State}
use Rattle.unit.specs.TheUnit.{interrupt_line}
use Rattle.unit.specs.Calls.{read_of, write_of, advance_of, lent_after, is_taken}
use Rattle.unit.specs.Answers.{reading_number, reading_word, answer_number}
use Rattle.pack.specs.Packing.{packed, is_whole, unpacked}

-- the answer where the lent words are not as many as hold a state; no question has this number
abbrev pub wrong_length : ℕ
wrong_length = 100

-- the lent words after a call on the state that they hold: those of its next state where it is taken, else as they were
unfoldable pub words_after : Answered → List ℕ → List ℕ
words_after r s = pick (is_taken r.answer) (packed r.state) s

-- ---- reset

unfoldable pub reset_answer : List ℕ → ℕ
reset_answer s = pick (is_whole s) 0 wrong_length

-- ---- read

unfoldable pub read_answer : List ℕ → ℕ → ℕ
read_answer s a = pick (is_whole s) (reading_number (read_of (unpacked s) a)) wrong_length

unfoldable pub read_word : List ℕ → ℕ → ℕ
read_word s a = pick (is_whole s) (reading_word (read_of (unpacked s) a)) 0

-- the answer and a word, in the high and the low half of one number
unfoldable pub joined : ℕ → ℕ → ℕ
joined answer w = answer * 65536 + w

-- ---- write

unfoldable pub write_answer : List ℕ → ℕ → ℕ → ℕ
write_answer s a v = pick (is_whole s) (answer_number (write_of (unpacked s) a v).answer) wrong_length

unfoldable pub write_words : List ℕ → ℕ → ℕ → List ℕ
write_words s a v = pick (is_whole s) (words_after (write_of (unpacked s) a v) s) s

-- the state that they hold then
unfoldable pub write_state : List ℕ → ℕ → ℕ → State
write_state s a v = pick (is_whole s) (write_of (unpacked s) a v).state (unpacked s)

-- ---- advance

unfoldable pub advance_answer : List ℕ → ℕ → List ℕ → ℕ
advance_answer s n pins = pick (is_whole s) (answer_number (advance_of (unpacked s) n pins).answer) wrong_length

unfoldable pub advance_words : List ℕ → ℕ → List ℕ → List ℕ
advance_words s n pins = pick (is_whole s) (words_after (advance_of (unpacked s) n pins) s) s

unfoldable pub advance_state : List ℕ → ℕ → List ℕ → State
advance_state s n pins = pick (is_whole s) (advance_of (unpacked s) n pins).state (unpacked s)

unfoldable pub advance_pins : List ℕ → ℕ → List ℕ → List ℕ
advance_pins s n pins = pick (is_whole s) (lent_after (unpacked s) n pins) pins

-- ---- the interrupt line

unfoldable pub line_answer : List ℕ → ℕ
line_answer s = pick (is_whole s) (bit_value (interrupt_line (unpacked s))) wrong_length
