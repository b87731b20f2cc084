use mathlib.Core.Path.{◌≡◌}
use Prim.Native.Nat.{◌-◌, ◌≤◌}
use lib.ListN.{length, take}
use Rattle.pack.specs.Packing.{tabulate, latches_in}
use Rattle.pack.proofs.reading.channels_in.Given as goal

abbrev pub invariant-loop-i : goal.invariant-loop-i
invariant-loop-i l = (l.i ≤ 16) × (length l.s ≡ 211) × (length l.w ≡ 16) × (take l.i l.w ≡ tabulate l.i (latches_in l.s))

abbrev pub decreases-loop-i : goal.decreases-loop-i
decreases-loop-i l = 16 - l.i
