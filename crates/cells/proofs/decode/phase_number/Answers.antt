use lib.Bits.{and_mask}
use Rattle.words.specs.Field.{field}
use Rattle.cells.proofs.decode.phase_number.Goals as goal

pub returns : goal.returns
unfolding field
returns c = and_mask _ 2
