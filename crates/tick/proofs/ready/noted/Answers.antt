use mathlib.Core.Logic.{◌≢◌}
use native.Mathlib.Omega.{arith}
use borrow.Author.Tests.{ne_eqb}
use Rattle.tick.specs.Ready.{noted}
use Rattle.tick.proofs.ready.noted.Goals as goal

pub returns-in-3 : goal.returns-in-3
unfolding noted
returns-in-3 c = rw (c.with_bit.ensures, c.in-3.is)

pub returns-in-2 : goal.returns-in-2
unfolding noted
returns-in-2 c = rw (c.with_bit-in-2.ensures, c.in-2.is)

pub returns-in_default : goal.returns-in_default
unfolding noted
returns-in_default c =
    let two : c.args.level ≢ 2 = λ e. omega arith in
    let three : c.args.level ≢ 3 = λ e. omega arith in
    rw (c.with_bit-in_default.ensures, ne_eqb _ 3 three, ne_eqb _ 2 two)
