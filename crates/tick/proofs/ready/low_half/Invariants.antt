use mathlib.Core.Path.{◌≡◌}
use Prim.Native.Nat.{◌-◌, ◌≤◌}
use Rattle.pack.specs.Packing.{state_in}
use Rattle.tick.specs.Ready.{pending_below}
use Rattle.tick.proofs.ready.low_half.Given as goal

abbrev pub invariant-loop-c : goal.invariant-loop-c
invariant-loop-c l = (l.c ≤ 8) × (l.w ≡ pending_below l.c (state_in l.s))

abbrev pub decreases-loop-c : goal.decreases-loop-c
decreases-loop-c l = 8 - l.c
