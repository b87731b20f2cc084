use mathlib.Core.Path.{◌∙◌}
use Rattle.unit.specs.TheUnit.{position}
use Rattle.stepping.proofs.counted.Goals as goal

pub returns : goal.returns
unfolding position
returns c =
    c.put_word-2.ensures ∙ rw (c.put_word.ensures, c.counted-w.ensures, c.word-2.ensures, c.beside-place.ensures, c.word.ensures)
