use mathlib.Core.Bool.{◌&&◌}
use mathlib.Core.Path.{◌≡◌, ap}
use lib.Dec.{eqb}
use Rattle.unit.specs.TheUnit.{word, next_rate}
use Rattle.unit.specs.Gate.{otherwise_zero, pattern_good}
use Rattle.pack.specs.Packing.{state_in}
use Rattle.questions.proofs.Chains.{goes, ends}
use Rattle.questions.proofs.pattern_good.Goals as goal
use Rattle.questions.proofs.pattern_good.Goals.{then-otherwise_zero, else-otherwise_zero}

pub returns-then-next_rate-eq1 : goal.returns-then-next_rate-eq1
unfolding pattern_good
returns-then-next_rate-eq1 c =
    let s = state_in c.args.s.now in
    let one : c.otherwise_zero.result ≡ otherwise_zero (word s c.args.c.number 4) = rw (← c.word.ensures) c.otherwise_zero.ensures in
    let two : c.if-otherwise_zero.value ≡ (otherwise_zero (word s c.args.c.number 4) && eqb (next_rate s c.args.c.number) 1) =
    elim c.if-otherwise_zero.branch [
      | then-otherwise_zero w ↦ goes _ _ _ _ _ one w.if-otherwise_zero.true w.value-is (ap (λ n. eqb n 1) w.next_rate.ensures)
      | else-otherwise_zero w ↦ ends _ _ _ _ one w.if-otherwise_zero.false w.value-is
    ] in
    rw (← two, c.if-next_rate-eq1.true) c.group_shows.ensures

pub returns-else-next_rate-eq1 : goal.returns-else-next_rate-eq1
unfolding pattern_good
returns-else-next_rate-eq1 c =
    let s = state_in c.args.s.now in
    let one : c.otherwise_zero.result ≡ otherwise_zero (word s c.args.c.number 4) = rw (← c.word.ensures) c.otherwise_zero.ensures in
    let two : c.if-otherwise_zero.value ≡ (otherwise_zero (word s c.args.c.number 4) && eqb (next_rate s c.args.c.number) 1) =
    elim c.if-otherwise_zero.branch [
      | then-otherwise_zero w ↦ goes _ _ _ _ _ one w.if-otherwise_zero.true w.value-is (ap (λ n. eqb n 1) w.next_rate.ensures)
      | else-otherwise_zero w ↦ ends _ _ _ _ one w.if-otherwise_zero.false w.value-is
    ] in
    rw (← two, c.if-next_rate-eq1.false)
