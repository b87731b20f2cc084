use mathlib.Core.Path.{◌≡◌}
use Prim.Native.Nat.{◌-◌, ◌≤◌}
use Rattle.unit.specs.TheUnit.{each}
use Rattle.unit.specs.OneTick.{matched}
use Rattle.pack.specs.Packing.{state_in}
use Rattle.matching.proofs.match_all.Given as goal

abbrev pub invariant-loop-c : goal.invariant-loop-c
invariant-loop-c l = (l.c ≤ 16) × (state_in l.s ≡ each l.c 0 matched (state_in l.initial.s))

abbrev pub decreases-loop-c : goal.decreases-loop-c
decreases-loop-c l = 16 - l.c
