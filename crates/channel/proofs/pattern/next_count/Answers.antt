use Rattle.unit.specs.Stepping.{next_count}
use native.Mathlib.Omega.{arith}
use Rattle.channel.proofs.pattern.next_count.Goals as goal

pub returns-in-Right : goal.returns-in-Right
unfolding next_count
returns-in-Right c = rw c.in-Right.is (omega arith)

pub returns-in-Left : goal.returns-in-Left
unfolding next_count
returns-in-Left c = rw c.in-Left.is (omega arith)
