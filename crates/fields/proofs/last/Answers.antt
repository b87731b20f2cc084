use Rattle.unit.specs.TheUnit.{last}
use Rattle.fields.proofs.last.Goals as goal

pub returns : goal.returns
unfolding last
returns c = rw (c.nibble.ensures, c.word.ensures)
