use mathlib.Core.Bool.{false}
use mathlib.Core.Path.{◌≡◌, refl}
use borrow.Author.Tests.{le-leb, lt-leb}
use Rattle.unit.specs.Gate.{advance_good}
use Rattle.unit.specs.Calls.{advance_of, lent_after}
use Rattle.unit.specs.Answers.{answer_number}
use Rattle.unit.proofs.Tests.{and_no}
use Rattle.ticks.proofs.advance.Goals as goal
use Rattle.ticks.proofs.advance.Goals.{then-n-gt-MAX_TICKS-via-then-n-gt-MAX_TICKS, then-n-gt-MAX_TICKS-via-else-n-gt-MAX_TICKS+then-lent-n}

pub returns-then-n-gt-MAX_TICKS : goal.returns-then-n-gt-MAX_TICKS
unfolding advance_of lent_after advance_good answer_number
returns-then-n-gt-MAX_TICKS c =
    let no : advance_good c.args.n c.args.lent.now ≡ false =
    elim c.then-n-gt-MAX_TICKS.branch [
      | then-n-gt-MAX_TICKS-via-then-n-gt-MAX_TICKS w ↦ rw (lt-leb _ _ w.if-n-gt-MAX_TICKS.true)
      | then-n-gt-MAX_TICKS-via-else-n-gt-MAX_TICKS+then-lent-n w ↦ and_no _ _ (lt-leb _ _ w.if-lent-n.true)
    ] in
    rw no (record { answer = refl; state = refl; pins = refl; number = refl })

pub returns : goal.returns
unfolding advance_of lent_after advance_good answer_number
returns c =
    rw (le-leb _ _ c.if-n-gt-MAX_TICKS.false, le-leb _ _ c.if-lent-n.false)
    (record { answer = refl; state = c.run.ensures.state; pins = c.run.ensures.pins; number = refl })
