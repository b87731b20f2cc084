use mathlib.Core.Path.{refl}
use borrow.Author.Tests.{ne_eqb}
use Rattle.pack.specs.Packing.{is_whole, laid}
use Rattle.pack.proofs.Back.{reset-zeros}
use Rattle.tpu_c.specs.Numbers.{reset_answer}
use Rattle.tpu_c.proofs.Held.{whole, cleared}
use Rattle.tpu_c.proofs.tpu_sm_reset.Goals as goal

pub returns-then-state-ne-WORDS : goal.returns-then-state-ne-WORDS
unfolding reset_answer laid is_whole
returns-then-state-ne-WORDS c =
    rw (ne_eqb _ 211 c.if-state-ne-WORDS.true) (record { answer = refl; words = refl; zeros = reset-zeros })

pub returns : goal.returns
unfolding reset_answer
returns c =
    let l = c.if-state-ne-WORDS.false in
    record { answer = rw (whole _ l) refl; words = cleared _ _ l (c.fill.ensures.after (λ y e. e)); zeros = reset-zeros }
