use Rattle.unit.specs.TheUnit.{function}
use Rattle.registers.proofs.function.Goals as goal

pub returns : goal.returns
unfolding function
returns c = rw (c.nibble.ensures, c.reg.ensures, c.cfsr_of.ensures.word)
