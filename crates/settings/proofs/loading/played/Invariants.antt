use Rattle.std.proofs.Common.{◌≡◌}
use Rattle.unit.specs.Calls.{run}
use Rattle.pack.specs.Packing.{state_in}
use Rattle.keeping.specs.Layout.{setting_writes}
use Rattle.settings.proofs.loading.played.Given as goal

abbrev pub invariant-loop-n : goal.invariant-loop-n
invariant-loop-n l = state_in l.words ≡ run l.fn.s (setting_writes l.store l.k l.n)
