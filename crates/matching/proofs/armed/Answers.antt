use mathlib.Core.Path.{refl, ap, ◌∙◌}
use Rattle.words.specs.declared.Past.{Past}
use Rattle.words.specs.Clock.{due}
use Rattle.words.proofs.ChoiceLaws.{takes_first, takes-second}
use Rattle.unit.specs.OneTick.{match_of}
use Rattle.matching.proofs.armed.Goals as goal

pub returns-then-t : goal.returns-then-t
unfolding match_of due
returns-then-t c =
    let now = c.time_for-now.ensures in
    let time = c.args.time in
    let is = ap (λ (x : Past). x.due) c.past-t.ensures ∙ ap (λ k. due k time) now in
    takes_first _ _ _ _ _ is c.if-t.true (c.happen.ensures ∙ rw (c.pins_out.ensures, c.way-way.ensures, now))

pub returns-else-t : goal.returns-else-t
unfolding match_of due
returns-else-t c =
    let now = c.time_for-now.ensures in
    let time = c.args.time in
    let is = ap (λ (x : Past). x.due) c.past-t.ensures ∙ ap (λ k. due k time) now in
    takes-second _ _ _ _ _ is c.if-t.false refl
