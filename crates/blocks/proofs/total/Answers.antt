use Rattle.std.proofs.Common.{◌%◌, ◌+◌, refl, ◌∙◌, add-one, arith, rules}
use Rattle.std.proofs.lemmas.Iterator.{YieldsList-from_range}
use Rattle.std.proofs.lemmas.Iterator.Consumers.{fold_from_yields_List}
use Rattle.blocks.specs.Blocks.{word_in, sum}
use Rattle.blocks.proofs.RangeLaws.{fold-to}
use Rattle.blocks.proofs.total.Goals as goal

pub returns : goal.returns
unfolding sum
returns c =
    let words = word_in c.args.store.now c.args.k in
    fold_from_yields_List _ (λ t i. (t + words i) % 65536) _ _ c.fold.ensures.ran (YieldsList-from_range 0 255 255 refl refl)
    (λ t i u f h. search rules)
    ∙ fold-to (λ t i. (t + words i) % 65536) (λ n. sum words n % 65536) (λ n. rw add-one (omega arith)) 255
