use mathlib.Core.Logic.{◌≢◌}
use native.Mathlib.Omega.{arith}
use borrow.Author.Tests.{ne_eqb}
use Rattle.unit.specs.TheUnit.{phase_from}
use Rattle.cells.proofs.decode.phase_from.Goals as goal

pub returns-in-1 : goal.returns-in-1
unfolding phase_from
returns-in-1 c = rw c.in-1.is

pub returns-in-2 : goal.returns-in-2
unfolding phase_from
returns-in-2 c = rw c.in-2.is

pub returns-in-3 : goal.returns-in-3
unfolding phase_from
returns-in-3 c = rw c.in-3.is

pub returns-in_default : goal.returns-in_default
unfolding phase_from
returns-in_default c =
    let n = c.args.number in
    let one : n ≢ 1 = λ e. omega arith in
    let two : n ≢ 2 = λ e. omega arith in
    let three : n ≢ 3 = λ e. omega arith in
    rw (ne_eqb n 1 one, ne_eqb n 2 two, ne_eqb n 3 three)
