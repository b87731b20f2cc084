-- Words that hold the state which a call leaves are the words that are promised.
use Prim.Native.Nat.{ℕ}
use mathlib.Core.Bool.{Bool, true, false}
use mathlib.Core.List.{List}
use mathlib.Core.Path.{◌≡◌, refl, sym, ap, ◌∙◌}
use lib.ListN.{length, replicate}
use borrow.Author.Tests.{eq-eqb}
use Rattle.words.proofs.ChoiceLaws.{pick-cases, not-both}
use Rattle.words.specs.Field.{bit_value}
use mir.Val.{bool_byte}
use Rattle.unit.specs.declared.State.{State}
use Rattle.unit.specs.declared.Answered.{Answered}
use Rattle.unit.specs.TheUnit.{reset_state}
use Rattle.unit.specs.Gate.{advance_good}
use Rattle.unit.specs.Calls.{advance_of, is_taken}
use Rattle.pack.specs.Packing.{state_words, packed, zeros, laid, is_whole, state_in, unpacked, Holds}
use Rattle.pack.proofs.Back.{reset-zeros, exact}
use Rattle.tpu_c.specs.Numbers.{words_after}

pub whole : (s : List ℕ) → length s ≡ state_words → is_whole s ≡ true
unfolding is_whole
whole s z = eq-eqb _ state_words z

pub unpacked-whole : (s : List ℕ) → length s ≡ state_words → unpacked s ≡ state_in s
unfolding unpacked
unpacked-whole s z = rw (whole s z)

-- all words 0 hold the state after reset
pub cleared : (s t : List ℕ) → length s ≡ state_words → t ≡ replicate (length s) 0 → t ≡ laid reset_state s
unfolding laid zeros
cleared s t z e = rw (whole s z, reset-zeros) (e ∙ ap (λ n. replicate n 0) z)

pub bit-number : (b : Bool) → bool_byte b ≡ bit_value b
bit-number true = refl
bit-number false = refl

-- an advance that is not taken returns the state that it was given
pub advance-keeps : (s : State) (n : ℕ) (lent : List ℕ) → is_taken (advance_of s n lent).answer ≡ false → (advance_of s n lent).state ≡ s
unfolding advance_of is_taken
advance-keeps s n lent =
    pick-cases (λ (r : Answered). is_taken r.answer ≡ false → r.state ≡ s) (advance_good n lent) (λ g h. absurd (not-both refl h)) (λ g h. refl)

-- f is what the definition says of a call, t are the words after it on s
module _ (f : State → Answered) (s t : List ℕ) (z : length s ≡ state_words) (h : Holds t (f (state_in s)).state) where
  held : Holds t (f (unpacked s)).state
  held = rw (unpacked-whole s z) h

  pub words-after : ((st : State) → is_taken (f st).answer ≡ false → (f st).state ≡ st) → t ≡ words_after (f (unpacked s)) s
  unfolding words_after
  words-after keeps =
      sym (exact t held.0) ∙ ap packed held.1
      ∙ pick-cases (λ (w : List ℕ). packed (f (unpacked s)).state ≡ w) (is_taken (f (unpacked s)).answer) (λ a. refl) (λ a. ap packed (keeps (unpacked s) a ∙ unpacked-whole s z) ∙ exact s z)

  pub state-after : unpacked t ≡ (f (unpacked s)).state
  state-after = unpacked-whole t held.0 ∙ held.1
