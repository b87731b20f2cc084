use mathlib.Core.Bool.{true, false}
use mathlib.Core.Path.{◌≡◌, refl}
use Prim.Native.Nat.{◌+◌}
use native.Mathlib.Omega.{arith}
use borrow.Author.Rules.{rules}
use borrow.Author.Tests.{tests}
use Rattle.std.proofs.lemmas.Iterator.{cases_from_all, YieldsList-from_range}
use Rattle.unit.specs.Gate.{is_ready, group_ready}
use Rattle.pack.specs.Packing.{state_in}
use Rattle.binding.proofs.Chains.{all-chain}
use Rattle.questions.proofs.group_ready.Goals as goal

pub returns : goal.returns
unfolding group_ready
returns c =
    let a = c.args in
    let n = c.size-n.result in
    let f = is_ready (state_in a.s.now) c.kind-kind.result in
    rw (← c.size-n.ensures.size, ← c.kind-kind.ensures)
    (all-chain n a.c.number f _ (cases_from_all _ _ _ (λ x. f (a.c.number + x) ≡ true) (λ x. f (a.c.number + x) ≡ false) c.all.ensures.ran (YieldsList-from_range 0 n n refl (omega arith)) (λ x q k. search (rules, tests)) (λ x q k. search (rules, tests))))
