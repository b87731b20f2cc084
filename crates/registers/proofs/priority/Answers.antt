use Rattle.unit.specs.TheUnit.{priority, cpr_of}
use Rattle.registers.proofs.priority.Goals as goal

pub returns : goal.returns
unfolding priority cpr_of
returns c = rw (c.pair.ensures, c.reg.ensures, c.half_of.ensures.word)
