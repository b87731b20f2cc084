use Rattle.text.specs.Placing.{Wrote}
use Rattle.signals.specs.Signals.{binary}
use Rattle.signals.proofs.binary.Given as goal

abbrev pub invariant-loop-k : goal.invariant-loop-k
invariant-loop-k l = Wrote l.initial.page (binary l.k l.w) l.page
