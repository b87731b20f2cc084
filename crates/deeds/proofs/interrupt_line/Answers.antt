use Rattle.unit.specs.TheUnit.{interrupt_line}
use Rattle.deeds.proofs.interrupt_line.Goals as goal

pub returns : goal.returns
unfolding interrupt_line
returns c = rw (c.reg-2.ensures, c.reg.ensures)
