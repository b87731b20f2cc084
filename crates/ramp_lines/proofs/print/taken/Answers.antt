use Rattle.ramp_lines.specs.Replying.{taken}
use Rattle.text.proofs.PlacingLaws.{also}
use Rattle.ramp_lines.proofs.print.taken.Goals as goal

pub returns : goal.returns
unfolding taken
returns c =
    also c.pair.ensures
    (also c.word.ensures
    (also c.put.ensures (also c.word-2.ensures (also c.periods.ensures c.put-2.ensures))))
