use Rattle.text.specs.Ascii.{ascii}
use Rattle.text.proofs.PlacingLaws.{also}
use Rattle.drawing.specs.Drawing.{refusal_note}
use Rattle.drawing.proofs.act.refusal_note.Goals as goal

pub returns : goal.returns
unfolding refusal_note ascii
returns c = also c.text.ensures (also (rw (c.from.ensures, c.number.ensures) at c.decimal.ensures) c.text-2.ensures)
