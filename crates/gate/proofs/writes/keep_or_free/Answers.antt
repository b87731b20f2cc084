use mathlib.Core.Bool.{true, false}
use mathlib.Core.Path.{◌≡◌, refl}
use Prim.Native.Nat.{◌+◌}
use borrow.Author.Rules.{rules}
use borrow.Author.Tests.{tests}
use Rattle.std.proofs.lemmas.Iterator.{cases_from_all, YieldsList-from_range}
use Rattle.unit.specs.Gate.{keeps_or_free}
use Rattle.pack.specs.Packing.{state_in}
use Rattle.binding.proofs.Chains.{all-chain}
use Rattle.gate.proofs.writes.keep_or_free.Goals as goal

pub returns : goal.returns
returns c =
    let a = c.args in
    let f = keeps_or_free (state_in a.s.now) a.v in
    all-chain 4 a.a f _
    (cases_from_all _ _ _ (λ x. f (a.a + x) ≡ true) (λ x. f (a.a + x) ≡ false) c.all.ensures.ran (YieldsList-from_range 0 4 4 refl refl) (λ x q k. search (rules, tests)) (λ x q k. search (rules, tests)))
