use Rattle.text.specs.Printing.{hex_word}
use Rattle.text.proofs.PlacingLaws.{also}
use Rattle.printing.proofs.word.Goals as goal

pub returns : goal.returns
unfolding hex_word
returns c = rw (← c.from-n.ensures) (also c.digit.ensures (also c.digit-2.ensures (also c.digit-3.ensures c.digit-4.ensures)))
