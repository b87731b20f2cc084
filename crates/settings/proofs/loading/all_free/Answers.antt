use Rattle.std.proofs.Common.{refl, ◌∙◌, rules}
use Rattle.std.proofs.lemmas.Iterator.{YieldsList-from_range}
use Rattle.std.proofs.lemmas.Iterator.Search.{all_from_yields_List}
use Rattle.unit.specs.Gate.{is_free}
use Rattle.pack.specs.Packing.{state_in}
use Rattle.keeping.specs.Keeping.{all_free}
use Rattle.settings.proofs.AnswerLaws.{all-asked}
use Rattle.settings.proofs.loading.all_free.Goals as goal

pub returns : goal.returns
unfolding all_free
returns c =
    let free = is_free (state_in c.pack.new.s) in
    rw (← c.pack.ensures)
    (all_from_yields_List free _ _ _ c.all.ensures.ran (YieldsList-from_range 0 16 16 refl refl) (λ n b f h. search rules)
    ∙ all-asked free 0 16)
