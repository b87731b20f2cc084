use mathlib.Core.Path.{sym, ◌∙◌}
use native.Mathlib.Numerals.{add-one}
use Rattle.tick.proofs.ReadyLaws.{with-bit-more, no-bit-more}
use Rattle.tick.proofs.ready.marked.Goals as goal

pub returns-then-pends : goal.returns-then-pends
returns-then-pends c =
    c.with_bit.ensures ∙ rw (c.requires, add-one) (with-bit-more _ _ (sym c.pends.ensures ∙ c.if-pends.true))

pub returns-else-pends : goal.returns-else-pends
returns-else-pends c =
    rw (c.requires, add-one) (no-bit-more _ _ (sym c.pends.ensures ∙ c.if-pends.false))
