use mathlib.Core.Bool.{true, false}
use mathlib.Core.Path.{◌≡◌, refl}
use borrow.Author.Rules.{rules}
use borrow.Author.Tests.{tests}
use Rattle.unit.specs.TheUnit.{reaches, is_bound}
use Rattle.std.proofs.lemmas.Iterator.{cases_from_any, YieldsList-from_range}
use Rattle.pack.specs.Packing.{state_in}
use Rattle.binding.proofs.Chains.{any-chain}
use Rattle.binding.proofs.is_bound.Goals as goal

pub returns-then-stepping : goal.returns-then-stepping
unfolding is_bound
returns-then-stepping c = rw (← c.stepping.ensures, c.if-stepping.true)

pub returns-else-stepping : goal.returns-else-stepping
unfolding is_bound
returns-else-stepping c =
    let f = reaches (state_in c.args.s.now) c.args.c.number in
    let n = any-chain 16 f _ (cases_from_any _ _ _ (λ x. f x ≡ true) (λ x. f x ≡ false) c.any.ensures.ran (YieldsList-from_range 0 16 16 refl refl) (λ x q k. search (rules, tests)) (λ x q k. search (rules, tests))) in
    rw (← c.stepping.ensures, c.if-stepping.false) n
