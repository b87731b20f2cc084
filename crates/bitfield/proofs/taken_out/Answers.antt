use mathlib.Core.Path.{◌≡◌, ◌∙◌}
use Prim.Native.Nat.{ℕ, ◌*◌, ◌%◌, ◌^◌, ◌<◌}
use native.Mathlib.Nat.{one-mul}
use native.Mathlib.Omega.{arith}
use lib.Bits.{and_mask}
use lib.Pow.{pow_pos, shl_exact}
use Rattle.words.specs.Field.{field}
use Rattle.bitfield.proofs.taken_out.Goals as goal

-- the shift that makes the mask loses nothing
one_shifted : (width : ℕ) → width < 16 → (1 * 2 ^ width) % 65536 ≡ 2 ^ width
one_shifted width h = shl_exact 1 width 16 (omega arith) (omega arith) ∙ one-mul (2 ^ width)

pub overflow_sub-result : goal.overflow_sub-result
overflow_sub-result c = rw (one_shifted c.args.width (omega arith)) (pow_pos c.args.width)

pub returns : goal.returns
unfolding field
returns c = rw (one_shifted c.args.width (omega arith)) (and_mask _ c.args.width)
