use Prim.Native.Nat.{◌<◌}
use native.Mathlib.Omega.{arith}
use Rattle.words.proofs.FieldLaws.{field_lt}
use Rattle.fields.proofs.size_in.Goals as goal

pub overflow_add-result : goal.overflow_add-result
overflow_add-result c =
    let h : c.nibble-l.result < 16 = rw c.nibble-l.ensures (omega (arith, field_lt 4 c.args.w 0)) in
    omega (arith, h)
