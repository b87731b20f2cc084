use Rattle.std.proofs.Common.{sym, ◌∙◌}
use Rattle.text.proofs.PlacingLaws.{also, nothing}
use Rattle.signals.specs.Signals.{wire_line, wire_value}
use Rattle.signals.proofs.SignalsLaws.{level}
use Rattle.signals.proofs.wire_value.Goals as goal

pub returns-then-eq : goal.returns-then-eq
unfolding wire_value
returns-then-eq c = rw (sym c.eq.ensures ∙ c.if-eq.true) (nothing _)

pub returns : goal.returns
unfolding wire_value wire_line
returns c = rw (sym c.eq.ensures ∙ c.if-eq.false, ← level c.args.on, ← c.from.ensures) (also c.decimal.ensures c.text.ensures)
