-- Paper 02, #103, about every list of calls from reset: a move over up to N places never leaves rate 1, a longer one takes up speed while
-- more than N places lie ahead, and the last step of either is at rate 1.
use Rattle.std.specs.Prelude.{ℕ, ◌≤◌, false, List, ◌∷◌, ◌++◌, ◌≡◌}
use Rattle.std.proofs.Math.Option.{none}
use Rattle.motor.specs.Track.{distance}
use Rattle.motor.specs.Count.{UpToArrival, NoTarget, moves_in, latest}
use Rattle.motor.specs.SlowMoves.{AllSlow, LastSlow, Paced}
use Rattle.unit.specs.declared.State.{State}
use Rattle.unit.specs.TheUnit.{reset_state, position, target, top, is_bound}
use Rattle.unit.specs.Calls.{Call}
use Rattle.history.specs.Moments.{Act, Writes, acts, does, through, Typed, moments, SetsGoing}

-- a list that is `Listed`, cut at a taken step request of a resting motor c, and what happens `now`, up to the arrival, in which no
-- target is taken; t is the state right after the request
pub record MoveOf (Listed : List Call → Type 0) (c : ℕ) (t : State) (now : List Act) : Type 0 where
  pub calls : List Call
  pub before : List Act
  pub rest : List Act
  pub a : ℕ
  pub v : ℕ
  pub listed : Listed calls
  pub whole : acts calls ≡ before ++ (Writes a v ∷ (now ++ rest))
  pub starts : SetsGoing c a v (through reset_state before)
  pub start : t ≡ does (Writes a v) (through reset_state before)
  pub running : UpToArrival (moments c t now)
  pub free : NoTarget (moments c t now)

pub record SlowMovesOf (Listed : List Call → Type 0) : Type 0 where
  pub short : (c : ℕ) (t : State) (now : List Act) → MoveOf Listed c t now → distance (position t c) (target t c) ≤ top t c → AllSlow (moves_in (moments c t now))
  pub ends : (c : ℕ) (t : State) (now : List Act) → MoveOf Listed c t now → is_bound (through t now) c ≡ false → LastSlow (latest none (moves_in (moments c t now)))
  pub paced : (c : ℕ) (t : State) (now : List Act) → MoveOf Listed c t now → Paced (top t c) (moments c t now)

-- of every list of calls whose written values are words
abbrev pub SlowMoves : Type 0
SlowMoves = SlowMovesOf Typed
