use mathlib.Core.Path.{◌≡◌}
use Prim.Native.Nat.{◌-◌, ◌≤◌}
use Rattle.unit.specs.TheUnit.{each}
use Rattle.unit.specs.Gate.{requested_one}
use Rattle.pack.specs.Packing.{state_in}
use Rattle.pack.specs.Packing.{state_in}
use Rattle.deeds.proofs.requested_all.Given as goal

abbrev pub invariant-loop-k : goal.invariant-loop-k
invariant-loop-k l = (l.k ≤ 8) × (state_in l.s ≡ each l.k l.a (requested_one l.v) (state_in l.initial.s))

abbrev pub decreases-loop-k : goal.decreases-loop-k
decreases-loop-k l = 8 - l.k
