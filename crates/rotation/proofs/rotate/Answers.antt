use mathlib.Core.Path.{◌≡◌, ◌∙◌}
use Prim.Native.Nat.{ℕ, zero, suc, ◌+◌, ◌-◌, ◌*◌, ◌/◌, ◌%◌, ◌^◌, ◌<◌}
use native.Mathlib.Nat.{add_comm, add-zero, mul-mod_left}
use native.Mathlib.Omega.{arith}
use lib.Bits.{bit_or, or_self, or_shifted_r}
use lib.Pow.{shl-shr, mod-pow-add}
use Rattle.words.specs.Rotation.{rotated_right}
use Rattle.words.proofs.RotationLaws.{kept-lt, turned}
use Rattle.rotation.proofs.rotate.Goals as goal

-- a shift left keeps the low bits
shifted : (w j k : ℕ) → (w * 2 ^ j) % 2 ^ (k + j) ≡ w % 2 ^ k * 2 ^ j
shifted w j k = mod-pow-add (w * 2 ^ j) k j ∙ rw (shl-shr w j, mul-mod_left w (2 ^ j)) (add-zero _)

-- none: both shifts leave w; else they have no bit in common, so `|` adds them
joined : (w m : ℕ) → w < 65536 → m < 16 → bit_or (w / 2 ^ m) ((w * 2 ^ ((16 - m) % 16)) % 65536) ≡ rotated_right w m
unfolding rotated_right
joined w zero fits h =
    let down : w / 2 ^ 0 ≡ w = omega arith in
    let up : (w * 2 ^ 0) % 65536 ≡ w = omega arith in
    rw (down, up, or_self w) (omega arith)
joined w (suc m) fits h =
    let k = suc m in
    let rest : (16 - k) % 16 ≡ 16 - k = omega arith in
    let e : k + (16 - k) ≡ 16 = omega arith in
    let up : (w * 2 ^ (16 - k)) % 65536 ≡ w % 2 ^ k * 2 ^ (16 - k) = rw e at (shifted w (16 - k) k) in
    rw (rest, up) (or_shifted_r (w % 2 ^ k) (16 - k) (w / 2 ^ k) (kept-lt w k fits (omega arith)) ∙ add_comm _ _)

pub returns : goal.returns
returns c =
    let w = c.args.w in
    let places = c.args.places in
    let e = joined w (places % 16) (omega arith) (omega arith) in
    record { right = e; turned = rw e (turned w places (omega arith)) }
