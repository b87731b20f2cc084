use mathlib.Core.Path.{◌≡◌, refl}
use borrow.Author.Rules.{rules}
use borrow.Author.Tests.{ne_eqb}
use Rattle.unit.specs.declared.State.{State}
use Rattle.unit.specs.declared.Answered.{Answered}
use Rattle.unit.specs.Calls.{write_of}
use Rattle.unit.proofs.Places.{write_kept}
use Rattle.pack.specs.Packing.{is_whole, state_in}
use Rattle.tpu_c.specs.Numbers.{write_answer, write_words, write_state}
use Rattle.tpu_c.proofs.Held.{whole, unpacked-whole, words-after, state-after}
use Rattle.tpu_c.proofs.tpu_sm_write.Goals as goal

pub returns-in_default : goal.returns-in_default
unfolding write_answer write_words write_state is_whole
returns-in_default c =
    rw (ne_eqb _ 211 c.in_default.ensures.cases) (record { answer = refl; words = refl; state = refl })

pub returns : goal.returns
unfolding write_answer write_words write_state
returns c =
    let all = c.in-Some.ensures.cases in
    let l = all.long in
    let e = c.write.ensures in
    let a = c.args in
    let call : State → Answered = λ x. write_of x a.address a.value in
    let held : state_in c.write.new.s ≡ (call (state_in a.state.now)).state = rw (← all.same) e.state in
    record {
      answer = rw (c.number.ensures, e.answer, all.same, whole _ l, unpacked-whole _ l) refl;
      words = rw (whole _ l) (words-after call _ _ l (search rules, held) (λ x. write_kept x _ _));
      state = rw (whole _ l) (state-after call _ _ l (search rules, held));
    }
