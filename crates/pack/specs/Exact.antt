-- Words and states are one to one: every content of the words is exactly one state, and every state of its size has exactly one content.
-- That of the state after reset is zeros.
use Rattle.std.specs.Prelude.{ℕ, List, ◌≡◌, length}
use Rattle.unit.specs.declared.State.{State}
use Rattle.unit.specs.TheUnit.{Whole, reset_state}
use Rattle.pack.specs.Packing.{state_words, packed, zeros, state_in, Holds}

pub record OneState : Type 0 where
  -- the words are those of the state that they hold, so no others hold it
  pub exact : (s : List ℕ) → length s ≡ state_words → packed (state_in s) ≡ s
  -- a state is held by its own words
  pub back : (st : State) → Whole st → Holds (packed st) st
  pub reset : packed reset_state ≡ zeros
