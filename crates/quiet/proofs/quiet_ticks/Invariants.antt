use mathlib.Core.Path.{◌≡◌}
use Prim.Native.Nat.{◌-◌, ◌≤◌}
use Rattle.unit.specs.Quiet.{quiet_below}
use Rattle.pack.specs.Packing.{state_in}
use Rattle.quiet.proofs.quiet_ticks.Given as goal

abbrev pub invariant-loop-c : goal.invariant-loop-c
invariant-loop-c l = (l.c ≤ 16) × (l.q ≡ quiet_below l.c (state_in l.s))

abbrev pub decreases-loop-c : goal.decreases-loop-c
decreases-loop-c l = 16 - l.c
