use native.Mathlib.Omega.{arith}
use mathlib.Core.Path.{refl, sym, ◌∙◌}
use Rattle.unit.specs.OneTick.{after_ticks}
use Rattle.unit.specs.Calls.{pin_words}
use Rattle.pack.specs.Packing.{state_in}
use Rattle.ticks.proofs.Lent.{quiet-leap}
use Rattle.ticks.proofs.onward.Goals as goal

pub returns-then-q-eq0-clause-state : goal.returns-then-q-eq0-clause-state
unfolding after_ticks
returns-then-q-eq0-clause-state c = c.tick.ensures

pub returns-then-q-eq0-clause-pins : goal.returns-then-q-eq0-clause-pins
unfolding after_ticks pin_words
returns-then-q-eq0-clause-pins c = refl

pub returns : goal.returns
returns c =
    let q = c.leap-q in
    let p = c.pass.ensures in
    let at_once = quiet-leap q.result (state_in c.args.s.now) p.tcr1 p.tcr2 (omega arith) q.ensures.quiet in
    record { some = omega arith; room = q.ensures.room; state = p.state ∙ sym at_once.0; pins = at_once.1 }
