use Rattle.isolation.proofs.OneMove.{one-move}
use Rattle.isolation.proofs.frames_apart.Goals as goal

pub returns : goal.returns
returns c = one-move
