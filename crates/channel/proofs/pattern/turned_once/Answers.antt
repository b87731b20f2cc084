use mathlib.Core.Path.{◌≡◌}
use Prim.Native.Nat.{ℕ, ◌%◌}
use Rattle.motor.specs.declared.Way.{Way}
use Rattle.motor.specs.declared.Way.TheVariants.{Right, Left}
use Rattle.words.specs.Rotation.{rotated_right, Turned}
use Rattle.unit.specs.Stepping.{next_count, turned_once}
use Rattle.channel.proofs.pattern.turned_once.Goals as goal

-- one place right, or fifteen, which are one to the left
by_count : (w : Way) (x r : ℕ) → r ≡ rotated_right x (next_count w 0 % 16) → Turned x (next_count w 0) r → r ≡ turned_once w x
unfolding next_count turned_once
by_count Right x r e t = e
by_count Left x r e t = t.left

pub returns : goal.returns
returns c =
    let a = c.args in
    by_count a.way a.x _ (rw c.next_count.ensures at c.rotate.ensures.right) (rw c.next_count.ensures at c.rotate.ensures.turned)
