use mathlib.Core.Logic.{◌≢◌}
use native.Mathlib.Omega.{arith}
use borrow.Author.Tests.{ne_eqb}
use Rattle.unit.specs.Gate.{ask_register}
use Rattle.gate.proofs.Ranges.{inside, above, below}
use Rattle.gate.proofs.writes.ask_register.Goals as goal

pub returns-in-11 : goal.returns-in-11
unfolding ask_register
returns-in-11 c = rw c.in-11.is

pub returns-in-1-to-4 : goal.returns-in-1-to-4
unfolding ask_register
returns-in-1-to-4 c =
    let i = c.args.i in
    let other : i ≢ 11 = λ e. omega arith in
    rw (ne_eqb i 11 other, inside 1 4 i (omega arith) (omega arith)) c.ask_functions.ensures

pub returns-in-7-to-8 : goal.returns-in-7-to-8
unfolding ask_register
returns-in-7-to-8 c =
    let i = c.args.i in
    let other : i ≢ 11 = λ e. omega arith in
    rw (ne_eqb i 11 other, above 1 4 i (omega arith), inside 7 8 i (omega arith) (omega arith)) c.ask_requests.ensures

pub returns-in_default : goal.returns-in_default
unfolding ask_register
returns-in_default c =
    let i = c.args.i in
    let other : i ≢ 11 = λ e. omega arith in
    rw (ne_eqb i 11 other, below 1 4 i (omega arith), below 7 8 i (omega arith))

pub returns-in_default-2 : goal.returns-in_default-2
unfolding ask_register
returns-in_default-2 c =
    let i = c.args.i in
    let other : i ≢ 11 = λ e. omega arith in
    rw (ne_eqb i 11 other, above 1 4 i (omega arith), below 7 8 i (omega arith))

pub returns-in_default-3 : goal.returns-in_default-3
unfolding ask_register
returns-in_default-3 c =
    let i = c.args.i in
    let other : i ≢ 11 = λ e. omega arith in
    rw (ne_eqb i 11 other, above 1 4 i (omega arith), above 7 8 i (omega arith))
