-- The number of a verdict, by question 1.
use Prim.Native.Nat.{ℕ}
use mathlib.Core.Bool.{Bool, true, false}
use mathlib.Core.Path.{◌≡◌, refl, ap, ◌∙◌}
use Rattle.words.specs.Choice.{pick, ask}
use Rattle.unit.specs.declared.State.{State}
use Rattle.unit.specs.Gate.{place, Writes, in_list, ask_place, gate}
use Rattle.unit.specs.Answers.{verdict_number}
use Rattle.std.specs.Prelude.{Err}
use Rattle.unit.specs.Refusals.{refusal_number, Verdict}
use Rattle.unit.specs.declared.Refusal.{Refusal}
use Rattle.unit.specs.declared.Refusal.TheVariants.{NoSuchAddress}

asked : (q : Bool) (n : Refusal) (rest : Verdict) → verdict_number (ask q (Err n) rest) ≡ pick q (verdict_number rest) (refusal_number n)
unfolding ask verdict_number
asked true n rest = refl
asked false n rest = refl

pub numbered :
    (s : State) (a v : ℕ) (r : Verdict) →
    r ≡ gate s a v →
    verdict_number r ≡ pick (in_list Writes a) (verdict_number (ask_place s (place a) v)) 1
unfolding gate
numbered s a v r e = ap verdict_number e ∙ asked (in_list Writes a) NoSuchAddress (ask_place s (place a) v)
