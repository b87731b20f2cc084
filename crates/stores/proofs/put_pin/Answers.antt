use mathlib.Core.Path.{◌≡◌}
use Prim.Native.Nat.{◌%◌}
use native.Mathlib.Omega.{arith}
use Rattle.stores.proofs.Puts.{pin-put}
use borrow.Author.Rules.{rules}
use Rattle.stores.proofs.put_pin.Goals as goal

pub returns : goal.returns
returns c = let e : c.args.c.number % 16 ≡ c.args.c.number = omega arith in
    rw (c.with_bit.ensures, e) (pin-put _ (search rules) _ _)
