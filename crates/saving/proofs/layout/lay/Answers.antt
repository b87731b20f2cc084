use Rattle.std.proofs.Common.{◌≡◌, length, sym, refl, ap, ◌∙◌, add-one, arith}
use Rattle.blocks.specs.Blocks.{laid, sum}
use Rattle.blocks.proofs.WordLaws.{laid-length}
use Rattle.keeping.proofs.LayoutLaws.{block-word}
use Rattle.saving.proofs.LayLaws.{laid_next, check-block}
use Rattle.saving.proofs.layout.lay.Goals as goal

pub loop-i-init : goal.loop-i-init
unfolding laid sum
loop-i-init c = (omega arith, refl, refl)

pub loop-i-preserved : goal.loop-i-preserved
unfolding sum
loop-i-preserved c = (
  omega arith,
  laid_next _ _ _ _ _ _ _ c.loop-i.invariant.1 c.put.ensures
      (c.held-w.ensures ∙ sym (block-word _ _ _ (omega arith))),
  rw (add-one, c.held-w.ensures) (omega arith),
)

pub returns : goal.returns
returns c =
    let e : c.loop-i.i ≡ 255 = omega arith in
    laid_next _ _ _ _ _ 255 _ (rw (← e) c.loop-i.invariant.1) c.put-2.ensures
    (check-block _ _ _ (rw (← e) c.loop-i.invariant.2))

pub shape_of-store : goal.shape_of-store
shape_of-store c = ap length (returns c) ∙ laid-length _ _ _ 256
