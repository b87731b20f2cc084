use mathlib.Core.Path.{◌≡◌, refl, sym, ◌∙◌}
use Prim.Native.Nat.{◌+◌}
use native.Mathlib.Omega.{arith}
use Rattle.unit.specs.TheUnit.{each}
use Rattle.unit.specs.Gate.{requested}
use Rattle.pack.specs.Packing.{state_in}
use Rattle.deeds.proofs.Requests.{requests-nothing, one_more}
use mathlib.Core.Path.{◌≡◌, refl, sym, ◌∙◌}
use Rattle.pack.specs.Packing.{state_in}
use Rattle.deeds.proofs.requested_all.Goals as goal
use Rattle.deeds.proofs.requested_all.Goals.{then-r-ge2, else-r-ge2}

pub loop-k-init : goal.loop-k-init
unfolding each
loop-k-init c = (omega arith, refl)

pub invariant_of-requested : goal.invariant_of-requested
invariant_of-requested c = omega arith

pub loop-k-preserved : goal.loop-k-preserved
loop-k-preserved c =
    let l = c.loop-k in
    let a = c.args in
    let r = c.pair-r.result in
    let step : state_in c.if-r-ge2.s ≡ requested (state_in l.s) (a.a + l.k) r =
    elim c.if-r-ge2.branch [
      | then-r-ge2 w ↦ rw w.s-is w.requested.ensures
      | else-r-ge2 w ↦ rw w.s-is (sym (requests-nothing (state_in l.s) (a.a + l.k) r w.if-r-ge2.false))
    ] in
    (omega arith, step ∙ one_more l.k a.a a.v r _ _ l.invariant.1 c.pair-r.ensures)

pub returns : goal.returns
returns c =
    let e : c.loop-k.k ≡ 8 = omega arith in
    rw (← e) c.loop-k.invariant.1
