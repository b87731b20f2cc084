use mathlib.Core.Path.{◌∙◌}
use Rattle.unit.specs.Stepping.{stepped}
use Rattle.stepping.proofs.stepped.Goals as goal

pub returns : goal.returns
unfolding stepped
returns c =
    c.match_set.ensures ∙ rw (c.all_prepared.ensures, c.counted.ensures, c.size-n.ensures.size, c.later-time.ensures, c.period_of.ensures, c.next_count-m.ensures, c.mod_count.ensures.count)
