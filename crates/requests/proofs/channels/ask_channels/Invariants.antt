use Rattle.std.proofs.Common.{◌≡◌, ◌-◌, ◌+◌, ◌≤◌}
use Rattle.unit.specs.Gate.{Yes, ask_channels}
use Rattle.pack.specs.Packing.{state_in}
use Rattle.requests.proofs.channels.ask_channels.Given as goal

abbrev pub invariant-loop-c : goal.invariant-loop-c
invariant-loop-c l = (l.a ≤ l.c) × (l.c ≤ l.a + 8) × (ask_channels (l.c - l.a) l.a l.v (state_in l.initial.s) ≡ Yes (state_in l.s))
