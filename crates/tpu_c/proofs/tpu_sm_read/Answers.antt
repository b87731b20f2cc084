use mathlib.Core.Path.{refl}
use native.Mathlib.Omega.{arith}
use borrow.Author.Tests.{ne_eqb}
use Rattle.pack.specs.Packing.{is_whole}
use Rattle.tpu_c.specs.Numbers.{read_answer, read_word, joined}
use Rattle.tpu_c.proofs.Held.{whole, unpacked-whole}
use Rattle.tpu_c.proofs.tpu_sm_read.Goals as goal

pub returns-in_default : goal.returns-in_default
unfolding read_answer read_word joined is_whole
returns-in_default c =
    rw (ne_eqb _ 211 c.in_default.ensures.cases) (record { halves = refl; word = omega arith })

pub returns : goal.returns
unfolding read_answer read_word
returns c =
    let all = c.in-Some.ensures.cases in
    let b = c.both_halves.ensures in
    rw (whole _ all.long, unpacked-whole _ all.long, ← all.same, ← c.read.ensures.reading) (record { halves = b.halves; word = b.word })
