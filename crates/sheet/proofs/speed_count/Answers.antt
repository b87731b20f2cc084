use lib.Ieee.{of_bits}
use Rattle.sheet.specs.Numbers.{speed_count}
use Rattle.sheet.proofs.speed_count.Goals as goal

pub returns : goal.returns
unfolding speed_count of_bits
returns c = c.period_count.ensures
