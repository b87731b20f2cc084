use Rattle.unit.specs.TheUnit.{top}
use Rattle.fields.proofs.top.Goals as goal

pub returns : goal.returns
unfolding top
returns c = rw (c.nibble.ensures, c.word.ensures)
