use mathlib.Core.Path.{◌≡◌}
use Prim.Native.Nat.{◌-◌, ◌≤◌}
use Rattle.unit.specs.TheUnit.{each}
use Rattle.unit.specs.Stepping.{prepared}
use Rattle.pack.specs.Packing.{state_in}
use Rattle.stepping.proofs.all_prepared.Given as goal

abbrev pub invariant-loop-i : goal.invariant-loop-i
invariant-loop-i l = (l.i ≤ l.n) × (state_in l.s ≡ each l.i l.c (prepared l.way l.m) (state_in l.initial.s))

abbrev pub decreases-loop-i : goal.decreases-loop-i
decreases-loop-i l = l.n - l.i
