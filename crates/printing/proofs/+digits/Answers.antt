use native.Mathlib.Omega.{arith}
use Rattle.text.proofs.PlacingLaws.{also}
use Rattle.printing.proofs.PrintingLaws.{digits_last, digits-small, digits-large}
use Rattle.printing.proofs.+digits.Goals as goal

pub returns-then-more-eq0 : goal.returns-then-more-eq0
returns-then-more-eq0 t c = rw (digits_last _ _ c.if-more-eq0.true) c.digit.ensures

pub returns-then-n-lt10 : goal.returns-then-n-lt10
returns-then-n-lt10 t c =
    rw (digits-small _ _ c.if-more-eq0.false c.if-n-lt10.true) c.digit-then-n-lt10.ensures

pub returns-else-n-lt10 : goal.returns-else-n-lt10
returns-else-n-lt10 t c =
    rw (digits-large c.args.more c.args.n c.if-more-eq0.false (omega arith)) (also c.digits.ensures c.digit-else-n-lt10.ensures)
