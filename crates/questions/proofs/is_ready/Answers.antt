use mathlib.Core.Bool.{◌&&◌}
use mathlib.Core.Path.{◌≡◌}
use Rattle.words.proofs.ClockLaws.{derived-same}
use Rattle.unit.specs.TheUnit.{channel}
use Rattle.unit.specs.Gate.{is_stepper, is_free, is_ready}
use Rattle.pack.specs.Packing.{state_in}
use Rattle.questions.proofs.Chains.{goes, ends, joined}
use Rattle.questions.proofs.is_ready.Goals as goal
use Rattle.questions.proofs.is_ready.Goals.{then-is_stepper, else-is_stepper, then-initialised, else-initialised}

pub returns-then-is_free : goal.returns-then-is_free
unfolding is_ready
returns-then-is_free c =
    let s = state_in c.args.s.now in
    let j = c.args.j.number in
    let first = is_stepper s j in
    let second = (channel s j).initialised in
    let two : c.if-is_stepper.value ≡ (first && second) =
    elim c.if-is_stepper.branch [
      | then-is_stepper w ↦ goes _ _ _ _ _ c.is_stepper.ensures w.if-is_stepper.true w.value-is w.initialised.ensures
      | else-is_stepper w ↦ ends _ _ _ _ c.is_stepper.ensures w.if-is_stepper.false w.value-is
    ] in
    let three : c.if-initialised.value ≡ ((first && second) && is_free s j) =
    elim c.if-initialised.branch [
      | then-initialised w ↦ goes _ _ _ _ _ two w.if-initialised.true w.value-is w.is_free.ensures
      | else-initialised w ↦ ends _ _ _ _ two w.if-initialised.false w.value-is
    ] in
    rw (← joined first second (is_free s j), ← three, c.if-is_free.true) (cc (derived-same (channel s j).kind c.args.kind))

pub returns-else-is_free : goal.returns-else-is_free
unfolding is_ready
returns-else-is_free c =
    let s = state_in c.args.s.now in
    let j = c.args.j.number in
    let first = is_stepper s j in
    let second = (channel s j).initialised in
    let two : c.if-is_stepper.value ≡ (first && second) =
    elim c.if-is_stepper.branch [
      | then-is_stepper w ↦ goes _ _ _ _ _ c.is_stepper.ensures w.if-is_stepper.true w.value-is w.initialised.ensures
      | else-is_stepper w ↦ ends _ _ _ _ c.is_stepper.ensures w.if-is_stepper.false w.value-is
    ] in
    let three : c.if-initialised.value ≡ ((first && second) && is_free s j) =
    elim c.if-initialised.branch [
      | then-initialised w ↦ goes _ _ _ _ _ two w.if-initialised.true w.value-is w.is_free.ensures
      | else-initialised w ↦ ends _ _ _ _ two w.if-initialised.false w.value-is
    ] in
    rw (← joined first second (is_free s j), ← three, c.if-is_free.false)
