use mathlib.Core.Path.{◌≡◌, refl}
use borrow.Author.Rules.{rules}
use borrow.Author.Tests.{ne_eqb}
use Rattle.unit.specs.declared.State.{State}
use Rattle.unit.specs.declared.Answered.{Answered}
use Rattle.unit.specs.Calls.{advance_of}
use Rattle.pack.specs.Packing.{is_whole, state_in}
use Rattle.tpu_c.specs.Numbers.{advance_answer, advance_words, advance_state, advance_pins}
use Rattle.tpu_c.proofs.Held.{whole, unpacked-whole, advance-keeps, words-after, state-after}
use Rattle.tpu_c.proofs.tpu_sm_advance.Goals as goal

pub returns-in_default : goal.returns-in_default
unfolding advance_answer advance_words advance_state advance_pins is_whole
returns-in_default c =
    rw (ne_eqb _ 211 c.in_default.ensures.cases) (record { answer = refl; words = refl; state = refl; pins = refl })

pub returns : goal.returns
unfolding advance_answer advance_words advance_state advance_pins
returns c =
    let all = c.in-Some.ensures.cases in
    let l = all.long in
    let e = c.advance.ensures in
    let g = c.args in
    let call : State → Answered = λ x. advance_of x g.n g.pins.now in
    let held : state_in c.advance.new.s ≡ (call (state_in g.state.now)).state = rw (← all.same) e.state in
    record {
      answer = rw (c.number.ensures, e.answer, all.same, whole _ l, unpacked-whole _ l) refl;
      words = rw (whole _ l) (words-after call _ _ l (search rules, held) (λ x. advance-keeps x _ _));
      state = rw (whole _ l) (state-after call _ _ l (search rules, held));
      pins = rw (whole _ l, unpacked-whole _ l, ← all.same) e.pins;
    }
