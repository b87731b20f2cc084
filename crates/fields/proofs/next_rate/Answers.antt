use Rattle.unit.specs.TheUnit.{next_rate}
use Rattle.fields.proofs.next_rate.Goals as goal

pub returns : goal.returns
unfolding next_rate
returns c = rw (c.nibble.ensures, c.word.ensures)
