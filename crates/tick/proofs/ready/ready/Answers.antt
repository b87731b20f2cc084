use native.Mathlib.Omega.{arith}
use mathlib.Core.Path.{refl, sym, ◌∙◌}
use lib.Count.{trailing_le}
use Rattle.pack.specs.Packing.{state_in}
use Rattle.tick.specs.Ready.{ready_below}
use Rattle.tick.proofs.ReadyLaws.{next-set, one-noted, shifted, none_left}
use Rattle.tick.proofs.ready.ready.Goals as goal

pub loop-rest-init : goal.loop-rest-init
unfolding ready_below
loop-rest-init c = (omega arith, c.pending_word-rest.ensures ∙ omega arith, refl)

pub overflow_cast-k : goal.overflow_cast-k
overflow_cast-k c = omega (arith, trailing_le 16 c.loop-rest.rest)

pub overflow_add-c : goal.overflow_add-c
overflow_add-c c = omega (arith, trailing_le 16 c.loop-rest.rest)

pub invariant_of-asked : goal.invariant_of-asked
invariant_of-asked c =
    let l = c.loop-rest in
    let n = next-set (state_in c.args.s.now) l.c l.rest l.invariant.0 l.invariant.1 (omega arith) in
    record { in_range = n.0 }

pub asked-w-requires : goal.asked-w-requires
asked-w-requires c =
    let l = c.loop-rest in
    let n = next-set (state_in c.args.s.now) l.c l.rest l.invariant.0 l.invariant.1 (omega arith) in
    n.1

pub overflow_shr-rest : goal.overflow_shr-rest
overflow_shr-rest c =
    let l = c.loop-rest in
    let n = next-set (state_in c.args.s.now) l.c l.rest l.invariant.0 l.invariant.1 (omega arith) in
    omega (arith, n.0)

pub overflow_add-c-in-loop-rest : goal.overflow_add-c-in-loop-rest
overflow_add-c-in-loop-rest c = omega (arith, trailing_le 16 c.loop-rest.rest)

pub overflow_add-c-in-loop-rest-2 : goal.overflow_add-c-in-loop-rest-2
overflow_add-c-in-loop-rest-2 c = omega (arith, trailing_le 16 c.loop-rest.rest)

pub loop-rest-smaller : goal.loop-rest-smaller
loop-rest-smaller c =
    let l = c.loop-rest in
    let n = next-set (state_in c.args.s.now) l.c l.rest l.invariant.0 l.invariant.1 (omega arith) in
    omega (arith, n.0)

pub loop-rest-preserved : goal.loop-rest-preserved
loop-rest-preserved c =
    let l = c.loop-rest in
    let s = state_in c.args.s.now in
    let n = next-set s l.c l.rest l.invariant.0 l.invariant.1 (omega arith) in
    (omega (arith, n.0), shifted s l.c _ l.rest l.invariant.1, c.asked-w.ensures ∙ one-noted s _ _ (l.invariant.2 ∙ sym n.2))

pub returns : goal.returns
returns c =
    let l = c.loop-rest in
    l.invariant.2 ∙ none_left _ l.c l.invariant.0 (sym l.invariant.1 ∙ omega arith)
