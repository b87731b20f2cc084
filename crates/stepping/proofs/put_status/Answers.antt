use mathlib.Core.Path.{◌≡◌, ◌∙◌}
use Prim.Native.Nat.{◌%◌}
use native.Mathlib.Omega.{arith}
use Rattle.unit.specs.TheUnit.{with_status}
use Rattle.stepping.proofs.put_status.Goals as goal

pub returns : goal.returns
unfolding with_status
returns c =
    let e : c.args.c.number % 16 ≡ c.args.c.number = omega arith in
    c.put_reg.ensures ∙ rw (c.with_bit-w.ensures, c.reg.ensures, e)
