use Rattle.text.specs.Ascii.{ascii}
use Rattle.text.proofs.PlacingLaws.{also}
use Rattle.wave.specs.Header.{declaration}
use Rattle.wave.proofs.declare.signal.Goals as goal

pub returns : goal.returns
unfolding declaration ascii
returns c =
    also c.text.ensures
    (also c.decimal.ensures
    (also c.text-2.ensures
    (also c.text-3.ensures (also c.decimal-2.ensures c.text-4.ensures))))
