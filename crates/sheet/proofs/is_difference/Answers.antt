use lib.Ieee.{of_bits}
use Rattle.sheet.specs.Numbers.{is_difference}
use Rattle.sheet.proofs.is_difference.Goals as goal

pub returns-then-x : goal.returns-then-x
unfolding is_difference of_bits
returns-then-x c = rw c.if-x.true
