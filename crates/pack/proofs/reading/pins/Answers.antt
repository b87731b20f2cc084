use mathlib.Core.Path.{refl}
use Rattle.pack.specs.Packing.{state_in}
use Rattle.pack.proofs.reading.pins.Goals as goal

pub returns : goal.returns
unfolding state_in
returns c = refl
