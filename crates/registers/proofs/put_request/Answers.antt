use Rattle.unit.specs.TheUnit.{with_request, hsrr_of}
use Rattle.registers.proofs.put_request.Goals as goal

pub returns : goal.returns
unfolding with_request hsrr_of
returns c =
    let p = c.put_reg.ensures in
    let w = c.with_pair-w.ensures in
    let r = c.reg.ensures in
    let h = c.half_of-i.ensures.word in
    rw (p, w, r, h)
