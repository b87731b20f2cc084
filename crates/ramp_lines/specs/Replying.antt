-- The bytes that answer a line. 32 is the space, 10 the end of a line.
use Rattle.std.specs.Prelude.{ℕ, zero, suc, List, [], ◌∷◌, ◌++◌, Option, Some, None, Ok, Err}
use Rattle.motor.specs.Stepping.{period}
use Rattle.text.specs.Printing.{hex_word, decimal, number_line}
use Rattle.ramp.specs.declared.Ramp.{Ramp}
use Rattle.ramp.specs.declared.Ramp.TheVariants.{Periods, Speeds}
use Rattle.ramp.specs.Sheet.{Answer, refusal_number, counts_of}
use Rattle.ramp_lines.specs.declared.line.Request.{Request}
use Rattle.ramp_lines.specs.Lines.{request_of}

-- P(1) to P(n) in decimal, a space before each
unfoldable pub periods_to : ℕ → ℕ → ℕ → List ℕ
periods_to zero cntl0 cntl1 = []
periods_to (suc n) cntl0 cntl1 = periods_to n cntl0 cntl1 ++ (32 ∷ decimal (period cntl0 cntl1 (suc n)))

-- taken: the letter, STEP_CNTL0, STEP_CNTL1 and the periods
unfoldable pub taken : ℕ → ℕ → ℕ → ℕ → List ℕ
taken letter n cntl0 cntl1 =
    letter ∷ 32 ∷ hex_word cntl0 ++ (32 ∷ hex_word cntl1 ++ (periods_to n cntl0 cntl1 ++ (10 ∷ [])))

-- or, refused, `N` (78) and the number
unfoldable pub answer_by : ℕ → ℕ → Answer → List ℕ
answer_by letter n (Ok controls) = taken letter n controls.step_cntl0 controls.step_cntl1
answer_by letter n (Err refusal) = number_line 78 (refusal_number refusal)

-- `P` (80) or `S` (83), as the line had it
unfoldable pub letter_of : Ramp → ℕ
letter_of (Periods slow difference) = 80
letter_of (Speeds slow fast) = 83

-- any line that asks for no ramp gets `E` (69)
unfoldable pub reply_by : Option Request → List ℕ
reply_by (Some q) = answer_by (letter_of q.sheet) q.rates (counts_of q.sheet q.tick q.rates)
reply_by None = 69 ∷ 10 ∷ []

unfoldable pub reply_to : List ℕ → List ℕ
reply_to line = reply_by (request_of line)
