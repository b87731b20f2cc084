use Rattle.text.specs.Placing.{Wrote}
use Rattle.wave.specs.Header.{declarations}
use Rattle.wave.proofs.declare.channels.Given as goal

abbrev pub invariant-loop-c : goal.invariant-loop-c
invariant-loop-c l = Wrote l.initial.page (declarations l.c l.width l.first l.name) l.page
