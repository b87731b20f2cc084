use mathlib.Core.Path.{◌≡◌}
use Prim.Native.Nat.{◌-◌, ◌/◌, ◌^◌, ◌≤◌}
use Rattle.pack.specs.Packing.{state_in}
use Rattle.tick.specs.Ready.{pending_below, ready_below}
use Rattle.tick.proofs.ready.ready.Given as goal

abbrev pub invariant-loop-rest : goal.invariant-loop-rest
invariant-loop-rest l = (l.c ≤ 16) × (l.rest ≡ pending_below 16 (state_in l.s) / 2 ^ l.c) × (l.w ≡ ready_below l.c (state_in l.s))

abbrev pub decreases-loop-rest : goal.decreases-loop-rest
decreases-loop-rest l = 16 - l.c
