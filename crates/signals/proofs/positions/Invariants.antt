use Rattle.std.proofs.Common.{option_map}
use Rattle.text.specs.Placing.{Wrote}
use Rattle.pack.specs.Packing.{state_in}
use Rattle.signals.specs.Signals.{position_values}
use Rattle.signals.proofs.positions.Given as goal

abbrev pub invariant-loop-c : goal.invariant-loop-c
invariant-loop-c l = Wrote l.initial.page (position_values l.c-counter (option_map (λ o. state_in o.now) l.old) (state_in l.words)) l.page
