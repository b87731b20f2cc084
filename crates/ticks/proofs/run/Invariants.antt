use Rattle.pack.specs.Packing.{state_in}
use Rattle.unit.specs.Calls.{pin_words}
use Rattle.unit.specs.OneTick.{after_ticks}
use lib.ListN.{length, drop}
use Prim.Native.Nat.{◌-◌, ◌≤◌}
use mathlib.Core.List.{◌++◌}
use mathlib.Core.Path.{◌≡◌}
use Rattle.ticks.proofs.run.Given as goal

abbrev pub invariant-loop-i : goal.invariant-loop-i
invariant-loop-i l = (l.i ≤ l.n) × (l.n ≤ 4096) × (l.n ≤ length l.initial.lent) × (length l.lent ≡ length l.initial.lent) × (state_in l.s ≡ after_ticks l.i (state_in l.initial.s)) × (l.lent ≡ pin_words l.i (state_in l.initial.s) ++ drop l.i l.initial.lent)

abbrev pub decreases-loop-i : goal.decreases-loop-i
decreases-loop-i l = l.n - l.i
