use mathlib.Core.Path.{◌≡◌, sym, ◌∙◌}
use Prim.Native.Nat.{suc, ◌-◌}
use native.Mathlib.Omega.{arith}
use lib.ListN.{length}
use Rattle.std.specs.Prelude.{None}
use Rattle.numeral.specs.Decimal.{numeral_of}
use Rattle.numeral.proofs.NumeralLaws.{small_read, none-stays}
use Rattle.numeral.proofs.scan.Goals as goal

pub with_byte-requires : goal.with_byte-requires
with_byte-requires c = small_read c.loop-b.b-index c.args.text.now c.loop-b.n c.loop-b.invariant

pub returns-in_err-n : goal.returns-in_err-n
unfolding numeral_of
returns-in_err-n c =
    let text = c.args.text.now in
    let i = c.loop-b.b-index in
    let e : numeral_of (suc i) text ≡ None = rw c.loop-b.invariant (sym c.with_byte.ensures ∙ c.in_err-n.was) in
    c.from_residual.ensures ∙ sym (none-stays text (length text - suc i) (suc i) (length text) (omega arith) e)
