use Rattle.std.proofs.Common.{arith, refl, ap, ◌∙◌, add-one, rules}
use Rattle.std.proofs.lemmas.Iterator.{YieldsList-from_range}
use Rattle.std.proofs.lemmas.Iterator.Consumers.{fold_from_yields_List}
use Rattle.blocks.specs.Finding.{better, found_below, found}
use Rattle.blocks.proofs.RangeLaws.{fold-to}
use Rattle.blocks.proofs.find.Goals as goal

pub returns : goal.returns
unfolding found found_below
returns c =
    let next = better c.args.store.now c.args.w in
    fold_from_yields_List _ next _ _ c.fold.ensures.ran (YieldsList-from_range 0 c.count.result c.count.result refl (omega arith))
    (λ best k f g h. search rules)
    ∙ fold-to next (found_below c.args.store.now c.args.w) (λ n. rw add-one refl) c.count.result
    ∙ ap (found_below c.args.store.now c.args.w) c.count.ensures
