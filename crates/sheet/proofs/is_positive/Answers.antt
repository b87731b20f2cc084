use lib.Ieee.{of_bits}
use Rattle.sheet.specs.Numbers.{is_positive}
use Rattle.sheet.proofs.is_positive.Goals as goal

pub returns-then-x : goal.returns-then-x
unfolding is_positive of_bits
returns-then-x c = rw c.if-x.true
