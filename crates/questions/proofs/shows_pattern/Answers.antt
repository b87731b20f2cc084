use mathlib.Core.Path.{◌≡◌}
use Prim.Native.Nat.{◌%◌}
use native.Mathlib.Omega.{arith}
use Rattle.unit.specs.TheUnit.{channel_control, pin_control}
use Rattle.unit.specs.Gate.{shows_pattern}
use Rattle.questions.proofs.shows_pattern.Goals as goal

pub returns : goal.returns
unfolding shows_pattern channel_control pin_control
returns c =
    let a = c.args in
    let e : a.m % 16 ≡ a.m = omega arith in
    rw (c.rotate.ensures.right, c.word-2.ensures, c.word.ensures, e)
