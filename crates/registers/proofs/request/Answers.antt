use Rattle.unit.specs.TheUnit.{request, hsrr_of}
use Rattle.registers.proofs.request.Goals as goal

pub returns : goal.returns
unfolding request hsrr_of
returns c = rw (c.pair.ensures, c.reg.ensures, c.half_of.ensures.word)
