use Rattle.stores.proofs.standing.Goals as goal

pub returns : goal.returns
returns c = rw (c.put_in-2.ensures, c.put_in.ensures, c.way_number.ensures)
