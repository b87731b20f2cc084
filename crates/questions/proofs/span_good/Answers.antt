use mathlib.Core.Bool.{◌&&◌}
use mathlib.Core.Path.{◌≡◌}
use lib.Dec.{leb}
use Rattle.unit.specs.TheUnit.{word, top}
use Rattle.unit.specs.Gate.{otherwise_zero, span_good}
use Rattle.pack.specs.Packing.{state_in}
use Rattle.questions.proofs.Chains.{goes, ends, above}
use Rattle.questions.proofs.span_good.Goals as goal
use Rattle.questions.proofs.span_good.Goals.{then-otherwise_zero, else-otherwise_zero}

pub returns-then-between : goal.returns-then-between
unfolding span_good
returns-then-between c =
    let s = state_in c.args.s.now in
    let a = c.args.c.number in
    let zero = otherwise_zero (word s a 5) in
    let rate = leb 1 (top s a) && leb (top s a) 14 in
    let one : c.otherwise_zero.result ≡ zero = rw (← c.word.ensures) c.otherwise_zero.ensures in
    let two : c.if-otherwise_zero.value ≡ (zero && rate) =
    elim c.if-otherwise_zero.branch [
      | then-otherwise_zero w ↦ goes _ _ _ _ _ one w.if-otherwise_zero.true w.value-is (rw (← w.top.ensures) w.between.ensures)
      | else-otherwise_zero w ↦ ends _ _ _ _ one w.if-otherwise_zero.false w.value-is
    ] in
    rw (← two, c.if-between.true, c.between-then-between.ensures, c.last.ensures, above)

pub returns-else-between : goal.returns-else-between
unfolding span_good
returns-else-between c =
    let s = state_in c.args.s.now in
    let a = c.args.c.number in
    let zero = otherwise_zero (word s a 5) in
    let rate = leb 1 (top s a) && leb (top s a) 14 in
    let one : c.otherwise_zero.result ≡ zero = rw (← c.word.ensures) c.otherwise_zero.ensures in
    let two : c.if-otherwise_zero.value ≡ (zero && rate) =
    elim c.if-otherwise_zero.branch [
      | then-otherwise_zero w ↦ goes _ _ _ _ _ one w.if-otherwise_zero.true w.value-is (rw (← w.top.ensures) w.between.ensures)
      | else-otherwise_zero w ↦ ends _ _ _ _ one w.if-otherwise_zero.false w.value-is
    ] in
    rw (← two, c.if-between.false)
