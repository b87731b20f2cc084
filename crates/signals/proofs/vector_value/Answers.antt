use Rattle.std.proofs.Common.{sym, ◌∙◌}
use Rattle.text.proofs.PlacingLaws.{also, nothing}
use Rattle.signals.specs.Signals.{vector_line, vector_value}
use Rattle.signals.proofs.vector_value.Goals as goal

pub returns-then-eq : goal.returns-then-eq
unfolding vector_value
returns-then-eq c = rw (sym c.eq.ensures ∙ c.if-eq.true) (nothing _)

pub returns : goal.returns
unfolding vector_value vector_line
returns c = rw (sym c.eq.ensures ∙ c.if-eq.false) (also c.vector.ensures c.text.ensures)
