use Rattle.stepping.proofs.period_of.Goals as goal

pub returns : goal.returns
returns c = rw (c.period.ensures, c.next_rate.ensures, c.cntl1.ensures, c.cntl0.ensures)
