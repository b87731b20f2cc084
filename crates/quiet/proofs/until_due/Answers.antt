use Prim.Native.Nat.{◌-◌}
use mathlib.Core.Path.{ap, ◌∙◌}
use borrow.Author.Tests.{le-leb, lt-leb}
use Rattle.unit.specs.Quiet.{until_due}
use Rattle.quiet.proofs.until_due.Goals as goal

pub returns-then-ahead-gt32768 : goal.returns-then-ahead-gt32768
unfolding until_due
returns-then-ahead-gt32768 c = rw (← c.time_by.ensures, ← c.since-ahead.ensures, lt-leb _ _ c.if-ahead-gt32768.true)

pub returns : goal.returns
unfolding until_due
returns c =
    rw (← c.time_by.ensures, ← c.since-ahead.ensures, le-leb _ _ c.if-ahead-gt32768.false)
    (c.saturating_sub.ensures ∙ ap (λ k. k - 1) c.ticks_until.ensures)
