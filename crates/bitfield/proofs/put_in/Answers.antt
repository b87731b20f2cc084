use mathlib.Core.Path.{◌≡◌}
use Prim.Native.Nat.{ℕ, ◌+◌, ◌-◌, ◌*◌, ◌%◌, ◌^◌, ◌≤◌, ◌<◌}
use native.Mathlib.Nat.{le_trans, mod-le, mod-mod, mod-eq_of_lt, div-one}
use native.Mathlib.Omega.{arith}
use lib.Pow.{shl_exact}
use Rattle.words.specs.Field.{field, with_field}
use Rattle.words.proofs.FieldLaws.{field_lt, field-le, field_fits}
use Rattle.bitfield.proofs.put_in.Goals as goal

-- no bit is lost when the old field and the new one are moved to their place
placed : (width w at x : ℕ) → at + width ≤ 16 → x < 2 ^ width → w - (field width w at * 2 ^ at) % 65536 + (x * 2 ^ at) % 65536 ≡ with_field width w at x
unfolding with_field
placed width w at x h l =
    rw (shl_exact width at 16 (field_lt width w at) (omega arith), shl_exact width at 16 l (omega arith), mod-eq_of_lt l)

-- a value that is cut to the field's width sets the same field
cut : (width w at v : ℕ) → with_field width w at (field width v 0) ≡ with_field width w at v
unfolding with_field field
cut width w at v = rw (div-one v, mod-mod v (2 ^ width))

pub overflow_sub-result : goal.overflow_sub-result
overflow_sub-result c = le_trans (mod-le _ 65536) (rw c.taken_out.ensures (field-le _ _ _))

pub overflow_add-result : goal.overflow_add-result
overflow_add-result c =
    let a = c.args in
    let new : c.taken_out-2.result < 2 ^ a.width = rw c.taken_out-2.ensures (field_lt _ _ _) in
    rw (c.taken_out.ensures, placed a.width a.w a.at c.taken_out-2.result (omega arith) new)
    (record { fits = field_fits a.width a.w a.at c.taken_out-2.result 16 (omega arith) (omega arith) })

pub returns : goal.returns
returns c =
    let a = c.args in
    let new : c.taken_out-2.result < 2 ^ a.width = rw c.taken_out-2.ensures (field_lt _ _ _) in
    rw (c.taken_out.ensures, placed a.width a.w a.at c.taken_out-2.result (omega arith) new, c.taken_out-2.ensures)
    (cut a.width a.w a.at a.v)
