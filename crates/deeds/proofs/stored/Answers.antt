use borrow.Author.Tests.{eq-eqb, ne_eqb}
use Rattle.unit.specs.Gate.{stored}
use Rattle.deeds.proofs.stored.Goals as goal

pub returns-then-at-eq0 : goal.returns-then-at-eq0
unfolding stored
returns-then-at-eq0 c =
    let u = c.uninitialise.ensures in
    let w = c.put_word.ensures in
    rw (eq-eqb _ _ c.if-at-eq0.true, ← w) u

pub returns-else-at-eq0 : goal.returns-else-at-eq0
unfolding stored
returns-else-at-eq0 c =
    let w = c.put_word.ensures in
    rw (ne_eqb _ _ c.if-at-eq0.false, ← w)
