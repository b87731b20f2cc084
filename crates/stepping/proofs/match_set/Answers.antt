use mathlib.Core.Path.{ap, ◌∙◌}
use Rattle.words.specs.declared.Past.{Past}
use Rattle.words.specs.Clock.{due}
use Rattle.words.proofs.ChoiceLaws.{takes_first, takes-second}
use Rattle.unit.specs.Stepping.{match_set}
use Rattle.stepping.proofs.match_set.Goals as goal

pub returns-then-t : goal.returns-then-t
unfolding match_set due
returns-then-t c =
    let now = c.time_for-now.ensures in
    let time = c.args.time in
    let is = ap (λ (x : Past). x.due) c.past-t.ensures ∙ ap (λ k. due k time) now in
    takes_first _ _ _ _ _ is c.if-t.true (c.happen.ensures ∙ rw (c.pins_out.ensures, now))

pub returns : goal.returns
unfolding match_set due
returns c =
    let now = c.time_for-now.ensures in
    let time = c.args.time in
    let is = ap (λ (x : Past). x.due) c.past-t.ensures ∙ ap (λ k. due k time) now in
    takes-second _ _ _ _ _ is c.if-t.false c.arm.ensures
