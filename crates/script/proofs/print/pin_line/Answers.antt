use Rattle.std.proofs.Common.{eq-eqb, ne_eqb}
use Rattle.script.specs.Printing.{pin_line}
use Rattle.text.proofs.PlacingLaws.{also, nothing}
use Rattle.script.proofs.print.pin_line.Goals as goal

pub returns-then-w-before : goal.returns-then-w-before
unfolding pin_line
returns-then-w-before c = rw (eq-eqb _ _ c.if-w-before.true) (nothing _)

pub returns : goal.returns
unfolding pin_line
returns c =
    rw (ne_eqb _ _ c.if-w-before.false)
    (also c.text.ensures (also c.decimal.ensures (also c.put.ensures (also c.word.ensures c.put-2.ensures))))
