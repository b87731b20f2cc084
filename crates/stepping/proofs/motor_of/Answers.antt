use Rattle.unit.specs.TheUnit.{position, target, motor_of}
use Rattle.stepping.proofs.motor_of.Goals as goal

pub returns : goal.returns
unfolding motor_of position target
returns c = rw (c.top.ensures, c.next_rate.ensures, c.word-2.ensures, c.word.ensures, c.way.ensures)
