-- Every history of a board: its list of calls has saves and loads beside the unit's reads, writes and advances.
use Rattle.std.specs.Prelude.{Result, Ok, Err, ℕ, List, [], ◌∷◌, ◌++◌, ◌≡◌}
use Rattle.words.specs.Choice.{pick}
use Rattle.unit.specs.declared.State.{State}
use Rattle.unit.specs.TheUnit.{reset_state}
use Rattle.unit.specs.Calls.{Call, run}
use Rattle.unit.specs.Calls as calls
use Rattle.history.specs.Moments.{Typed}
use Rattle.history.specs.Term3.{Term3Of}
use Rattle.history.specs.SlowMoves.{SlowMovesOf}
use Rattle.history.specs.Always.{AlwaysOf}
use Rattle.history.specs.Served.{ServedWithinOf}
use Rattle.history.specs.Late.{HowLateOf}
use Rattle.isolation.specs.OneMove.{OneMoveOf}
use Rattle.blocks.specs.Claims.{Bytes}
use Rattle.keeping.specs.declared.Refusal.{Refusal}
use Rattle.keeping.specs.declared.Which.{Which}
use Rattle.keeping.specs.Layout.{load_calls}
use Rattle.keeping.specs.Keeping.{chosen, all_free, load_of}

-- a call of the board: one of the unit's, or one with the store that is lent to it
pub data BoardCall : Type 0 where
  OfUnit : Call → BoardCall
  Save : List ℕ → BoardCall
  Load : Which → List ℕ → BoardCall

-- the state after it. A save gets a copy of the state and gives none back: the caller's is the one it had
unfoldable pub after : BoardCall → State → State
after (OfUnit x) s = calls.after x s
after (Save b) s = s
after (Load w b) s = (load_of s w b).state

unfoldable pub board_run : State → List BoardCall → State
board_run s [] = s
board_run s (x ∷ xs) = board_run (after x s) xs

-- the unit's calls that a load comes to: its writes, or none where it is refused
unfoldable pub played : State → List ℕ → Result ℕ Refusal → List Call
played s b (Err r) = []
played s b (Ok k) = pick (all_free s) (load_calls b k) []

unfoldable pub unit_calls : BoardCall → State → List Call
unit_calls (OfUnit x) s = x ∷ []
unit_calls (Save b) s = []
unit_calls (Load w b) s = played s b (chosen b w)

unfoldable pub all_calls : State → List BoardCall → List Call
all_calls s [] = []
all_calls s (x ∷ xs) = unit_calls x s ++ all_calls (after x s) xs

-- the values that are written are words, and a store that is loaded from has bytes
unfoldable pub TypedBoard : List BoardCall → Type 0
TypedBoard [] = Unit {0}
TypedBoard (OfUnit x ∷ xs) = Typed (x ∷ []) × TypedBoard xs
TypedBoard (Save b ∷ xs) = TypedBoard xs
TypedBoard (Load w b ∷ xs) = Bytes b × TypedBoard xs

-- a list of the unit's calls to which a list of the board's comes from reset
pub record FromBoard (listed : List Call) : Type 0 where
  pub board : List BoardCall
  pub typed : TypedBoard board
  pub come : listed ≡ all_calls reset_state board

pub record BoardHistory : Type 0 where
  -- after a list of the board's calls the state is that after the unit's calls to which it comes, and so with each part of it
  pub returns : (s : State) (xs : List BoardCall) → board_run s xs ≡ run s (all_calls s xs)
  pub parts : (s : State) (xs ys : List BoardCall) → all_calls s (xs ++ ys) ≡ all_calls s xs ++ all_calls (board_run s xs) ys
  -- term 3, what always holds, the speeds of slow moves, the 112 ticks within which a service comes, that no other channel changes a move, and
  -- how late the services were, of every list of the board's calls
  pub term-3 : Term3Of FromBoard
  pub always : AlwaysOf FromBoard
  pub slow-moves : SlowMovesOf FromBoard
  pub served : ServedWithinOf FromBoard
  pub one-move : OneMoveOf FromBoard
  pub how-late : HowLateOf FromBoard
