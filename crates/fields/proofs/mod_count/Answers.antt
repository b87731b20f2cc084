use Rattle.unit.specs.TheUnit.{mod_count}
use native.Mathlib.Omega.{arith}
use Rattle.words.proofs.FieldLaws.{field_lt}
use Rattle.fields.proofs.mod_count.Goals as goal

pub returns : goal.returns
unfolding mod_count
returns c =
    let e = c.nibble.ensures in
    record { count = rw (e, c.word.ensures); nibble = rw e (omega (arith, field_lt 4 c.word.result 8)) }
