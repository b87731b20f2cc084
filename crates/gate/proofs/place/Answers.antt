use native.Mathlib.Omega.{arith}
use borrow.Author.Tests.{eq-eqb, ne_eqb}
use Rattle.unit.specs.Gate.{place}
use Rattle.gate.proofs.Ranges.{inside, above, below}
use Rattle.gate.proofs.place.Goals as goal

pub returns-then-a-ne0 : goal.returns-then-a-ne0
unfolding place
returns-then-a-ne0 c = rw (ne_eqb _ 0 c.if-a-ne0.true)

pub returns-in-3594-to-3616 : goal.returns-in-3594-to-3616
unfolding place
returns-in-3594-to-3616 c =
    let a = c.args.a in
    rw (eq-eqb _ 0 c.if-a-ne0.false, inside 0xe0a 0xe20 a (omega arith) (omega arith))

pub returns-in-3648-to-3678 : goal.returns-in-3648-to-3678
unfolding place
returns-in-3648-to-3678 c =
    let a = c.args.a in
    rw (eq-eqb _ 0 c.if-a-ne0.false, above 0xe0a 0xe20 a (omega arith), inside 0xe40 0xe5e a (omega arith) (omega arith))

pub returns-in-3840-to-4094 : goal.returns-in-3840-to-4094
unfolding place
returns-in-3840-to-4094 c =
    let a = c.args.a in
    rw (eq-eqb _ 0 c.if-a-ne0.false, above 0xe0a 0xe20 a (omega arith), above 0xe40 0xe5e a (omega arith), inside 0xf00 0xffe a (omega arith) (omega arith))

pub returns-in_default : goal.returns-in_default
unfolding place
returns-in_default c =
    let a = c.args.a in
    rw (eq-eqb _ 0 c.if-a-ne0.false, below 0xe0a 0xe20 a (omega arith), below 0xe40 0xe5e a (omega arith), below 0xf00 0xffe a (omega arith))

pub returns-in_default-2 : goal.returns-in_default-2
unfolding place
returns-in_default-2 c =
    let a = c.args.a in
    rw (eq-eqb _ 0 c.if-a-ne0.false, above 0xe0a 0xe20 a (omega arith), below 0xe40 0xe5e a (omega arith), below 0xf00 0xffe a (omega arith))

pub returns-in_default-3 : goal.returns-in_default-3
unfolding place
returns-in_default-3 c =
    let a = c.args.a in
    rw (eq-eqb _ 0 c.if-a-ne0.false, above 0xe0a 0xe20 a (omega arith), above 0xe40 0xe5e a (omega arith), below 0xf00 0xffe a (omega arith))

pub returns-in_default-4 : goal.returns-in_default-4
unfolding place
returns-in_default-4 c =
    let a = c.args.a in
    rw (eq-eqb _ 0 c.if-a-ne0.false, above 0xe0a 0xe20 a (omega arith), above 0xe40 0xe5e a (omega arith), above 0xf00 0xffe a (omega arith))
