use mathlib.Core.Path.{◌∙◌}
use Rattle.unit.specs.OneTick.{matches, service_in, tick}
use Rattle.tick.proofs.tick.Goals as goal

pub returns : goal.returns
unfolding tick service_in matches
returns c =
    c.serve_next.ensures ∙ rw (c.match_all.ensures, c.clocked.ensures)
