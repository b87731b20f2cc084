use mathlib.Core.Path.{◌≡◌}
use Prim.Native.Nat.{◌+◌, ◌-◌, ◌≤◌}
use Rattle.unit.specs.TheUnit.{each}
use Rattle.unit.specs.Stepping.{pin_out}
use Rattle.pack.specs.Packing.{state_in}
use Rattle.matching.proofs.pins_out.Given as goal

abbrev pub invariant-loop-k : goal.invariant-loop-k
invariant-loop-k l = (l.k ≤ l.n) × (l.c.number + l.n ≤ 16) × (state_in l.s ≡ each l.k l.c.number pin_out (state_in l.initial.s))

abbrev pub decreases-loop-k : goal.decreases-loop-k
decreases-loop-k l = l.n - l.k
