-- No reply is longer than MAX_REPLY.
use Prim.Native.Nat.{ℕ, zero, suc, ◌+◌, ◌*◌, ◌≤◌}
use mathlib.Core.Path.{◌≡◌, refl}
use native.Mathlib.Omega.{arith}
use lib.Ieee.{Float}
use lib.ListN.{length, length-append}
use Rattle.motor.specs.Stepping.{period}
use Rattle.text.specs.Printing.{hex_word}
use Rattle.ramp.specs.declared.Ramp.{Ramp}
use Rattle.ramp.specs.declared.Ramp.TheVariants.{Periods, Speeds}
use Rattle.ramp.specs.Claims.{MayRun}
use Rattle.ramp.proofs.RampLaws.{ramps}
use Rattle.std.specs.Prelude.{Option, Some, None, Ok, Err}
use Rattle.ramp.specs.Sheet.{Answer, taken_with}
use Rattle.ramp_lines.specs.declared.line.Request.{Request}
use Rattle.ramp_lines.specs.Lines.{request_of}
use Rattle.ramp_lines.specs.Replying.{periods_to, taken, answer_by, reply_by, reply_to}
use Rattle.ramp_lines.specs.Claims.{NoneLonger}
use Rattle.text.proofs.LengthLaws.{decimal-short, number-line}

-- no period is longer than STEP_CNTL1
period-le : (cntl0 cntl1 r : ℕ) → period cntl0 cntl1 r ≤ cntl1
unfolding period
period-le cntl0 cntl1 r = omega arith

periods-short : (n cntl0 cntl1 : ℕ) → cntl1 ≤ 0xffff → length (periods_to n cntl0 cntl1) ≤ n * 6
unfolding periods_to
periods-short zero cntl0 cntl1 h = omega arith
periods-short (suc n) cntl0 cntl1 h =
    let p = period-le cntl0 cntl1 (suc n) in
    rw length-append (omega (arith, periods-short n cntl0 cntl1 h, decimal-short.0 4 (period cntl0 cntl1 (suc n)) (omega arith)))

-- where a ramp is taken, N is at most 14 and STEP_CNTL1 fits its word
in-range : (ramp : Ramp) (tick : Float) (n cntl0 cntl1 : ℕ) → MayRun ramp tick n cntl0 cntl1 → (n ≤ 14) × (cntl1 ≤ 0xffff)
in-range (Periods slow difference) tick n cntl0 cntl1 r = (r.words.rates.1, r.words.word)
in-range (Speeds slow fast) tick n cntl0 cntl1 r = (r.words.rates.1, r.words.word)

answer-short : (letter n : ℕ) (x : Answer) → ((cntl0 cntl1 : ℕ) → x ≡ taken_with cntl0 cntl1 → (n ≤ 14) × (cntl1 ≤ 0xffff)) → length (answer_by letter n x) ≤ 12 + 14 * 6
unfolding answer_by taken hex_word
answer-short letter n (Ok controls) h =
    let fits = h controls.step_cntl0 controls.step_cntl1 refl in
    simp length-append (omega (arith, fits.0, periods-short n controls.step_cntl0 controls.step_cntl1 fits.1))
answer-short letter n (Err refusal) h = rw (number-line 78 11) (omega (arith, decimal-short.1 11))

request-short : (q : Option Request) → length (reply_by q) ≤ 12 + 14 * 6
unfolding reply_by
request-short (Some q) =
    answer-short _ q.rates _ (λ cntl0 cntl1 e. in-range q.sheet q.tick q.rates cntl0 cntl1 ((ramps.taken q.sheet q.tick q.rates cntl0 cntl1).0 e))
request-short None = omega arith

pub none-longer : NoneLonger
unfolding reply_to
none-longer line = request-short (request_of line)
