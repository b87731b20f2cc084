use mathlib.Core.Path.{sym, ◌∙◌}
use Rattle.binding.proofs.Alone.{pairs-apart}
use Rattle.binding.proofs.lone.Goals as goal

pub returns-then-with_pair-eq0 : goal.returns-then-with_pair-eq0
returns-then-with_pair-eq0 c =
    (c.if-k-lt8.true, λ k m n. pairs-apart _ _ k (sym c.with_pair.ensures ∙ c.if-with_pair-eq0.true) c.if-k-lt8.true n)
