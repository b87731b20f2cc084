use Rattle.std.specs.Prelude.{◌≢◌}
use mathlib.Core.Path.{sym, ◌∙◌}
use native.Mathlib.Omega.{arith}
use Rattle.tick.proofs.ReadyLaws.{disabled, is-asked}
use borrow.Author.Rules.{rules}
use Rattle.tick.proofs.ready.asked.Goals as goal

pub returns-then-level-eq0 : goal.returns-then-level-eq0
returns-then-level-eq0 c = disabled _ _ _ (sym c.priority-level.ensures ∙ c.if-level-eq0.true)

pub returns-else-level-eq0 : goal.returns-else-level-eq0
returns-else-level-eq0 c =
    let level = c.priority-level.ensures in
    let enabled : c.priority-level.result ≢ 0 = λ z. omega arith in
    c.noted.ensures ∙ rw level (is-asked _ _ _ (search rules) (λ e. enabled (level ∙ e)))
