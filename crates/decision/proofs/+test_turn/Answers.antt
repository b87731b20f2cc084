use Prim.Native.Nat.{suc, ◌-◌}
use native.Mathlib.Omega.{arith}
use mathlib.Core.Path.{◌≡◌, sym, ◌∙◌}
use borrow.Author.Tests.{eq-eqb}
use Rattle.std.specs.Prelude.{Some, None}
use Rattle.motor.specs.Stepping.{choice, ahead, test as test_of, turn}
use Rattle.decision.proofs.Fuel.{onward, back, to-right, to-left}
use Rattle.decision.proofs.+test_turn.Goals as goal

pub test-returns-then-fuel-eq0 : goal.test-returns-then-fuel-eq0
unfolding test_of
test-returns-then-fuel-eq0 t c = rw c.if-fuel-eq0.true

pub test-returns-then-m : goal.test-returns-then-m
unfolding test_of
test-returns-then-m t c =
    let e : c.args.fuel ≡ suc (c.args.fuel - 1) = omega arith in
    rw (e, eq-eqb _ _ c.if-m.true)

pub test-returns-then-m-2 : goal.test-returns-then-m-2
test-returns-then-m-2 t c =
    c.turn.ensures ∙ sym (to-right c.args.fuel c.args.m (omega arith) (omega arith))

pub test-returns-else-m-2 : goal.test-returns-else-m-2
test-returns-else-m-2 t c =
    c.turn-else-m-2.ensures ∙ sym (to-left c.args.fuel c.args.m (omega arith) (omega arith))

pub turn-returns-then-fuel-eq0 : goal.turn-returns-then-fuel-eq0
unfolding turn
turn-returns-then-fuel-eq0 t c = rw c.if-fuel-eq0.true

pub turn-returns-in-Some : goal.turn-returns-in-Some
turn-returns-in-Some t c =
    let h : choice (ahead c.args.way c.args.m) c.args.m.top c.args.m.rate ≡ Some c.in-Some.rate = cc in
    sym (onward c.args.way c.args.fuel _ c.args.m (omega arith) h)

pub turn-returns-in-None : goal.turn-returns-in-None
turn-returns-in-None t c =
    let h : choice (ahead c.args.way c.args.m) c.args.m.top c.args.m.rate ≡ None = cc in
    c.test.ensures ∙ sym (back c.args.way c.args.fuel c.args.m (omega arith) h)
