use mathlib.Core.Path.{refl, ◌∙◌}
use borrow.Author.Tests.{ne_eqb}
use Rattle.pack.specs.Packing.{is_whole}
use Rattle.tpu_c.specs.Numbers.{line_answer}
use Rattle.tpu_c.proofs.Held.{whole, unpacked-whole, bit-number}
use Rattle.tpu_c.proofs.tpu_sm_interrupt_line.Goals as goal

pub returns-in_default : goal.returns-in_default
unfolding line_answer is_whole
returns-in_default c = rw (ne_eqb _ 211 c.in_default.ensures.cases) refl

pub returns : goal.returns
unfolding line_answer
returns c =
    let all = c.in-Some.ensures.cases in
    c.from.ensures ∙ bit-number _ ∙ rw (c.interrupt_line.ensures, all.same, whole _ all.long, unpacked-whole _ all.long) refl
