-- The number and the word of a read.
use Prim.Native.Nat.{ℕ}
use mathlib.Core.Bool.{Bool, true, false}
use mathlib.Core.Path.{◌≡◌, refl, ap, ◌∙◌}
use Rattle.words.specs.Choice.{pick, ask}
use Rattle.unit.specs.declared.State.{State}
use Rattle.unit.specs.Gate.{place, Reads, in_list}
use Rattle.unit.specs.Calls.{word_at, read_of}
use Rattle.unit.specs.Answers.{reading_number, reading_word}
use Rattle.std.specs.Prelude.{Err, Ok}
use Rattle.unit.specs.Refusals.{refusal_number, Reading}
use Rattle.unit.specs.declared.Refusal.{Refusal}
use Rattle.unit.specs.declared.Refusal.TheVariants.{NoSuchAddress}

module _ (n : Refusal) (w : ℕ) where
  asked-number : (q : Bool) → reading_number (ask q (Err n) (Ok w)) ≡ pick q 0 (refusal_number n)
  unfolding ask reading_number
  asked-number true = refl
  asked-number false = refl

  asked-word : (q : Bool) → reading_word (ask q (Err n) (Ok w)) ≡ pick q w 0
  unfolding ask reading_word
  asked-word true = refl
  asked-word false = refl

pub read-numbered :
    (s : State) (a : ℕ) (r : Reading) →
    r ≡ read_of s a →
    (r ≡ read_of s a)
    × (reading_number r ≡ pick (in_list Reads a) 0 1)
    × (reading_word r ≡ pick (in_list Reads a) (word_at s (place a)) 0)
unfolding read_of
read-numbered s a r e =
    let w = word_at s (place a) in
    (e, ap reading_number e ∙ asked-number NoSuchAddress w (in_list Reads a), ap reading_word e ∙ asked-word NoSuchAddress w (in_list Reads a))
