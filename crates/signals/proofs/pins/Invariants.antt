use Rattle.text.specs.Placing.{Wrote}
use Rattle.signals.specs.Signals.{pin_values}
use Rattle.signals.proofs.pins.Given as goal

abbrev pub invariant-loop-c : goal.invariant-loop-c
invariant-loop-c l = Wrote l.initial.page (pin_values l.c-counter l.old l.pins) l.page
