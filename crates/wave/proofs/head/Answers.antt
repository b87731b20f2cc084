use Rattle.text.specs.Ascii.{ascii}
use Rattle.text.proofs.PlacingLaws.{also}
use Rattle.wave.specs.Header.{header}
use Rattle.wave.proofs.head.Goals as goal

pub returns : goal.returns
unfolding header ascii
returns c =
    also c.text.ensures
    (also c.text-2.ensures
    (also c.channels.ensures
    (also c.text-3.ensures
    (also c.channels-2.ensures
    (also c.text-4.ensures (also c.text-5.ensures (also c.values.ensures c.text-6.ensures)))))))
