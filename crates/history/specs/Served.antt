-- Paper 02, #107, of every history: what waits to be served is served within 112 ticks, if the level of its channel stays and is not 00.
-- The claim: `ServedWithin`.
use Rattle.std.specs.Prelude.{ℕ, suc, ◌≤◌, ◌<◌, true, List, [], ◌∷◌, ◌≢◌, ◌⊎◌, ◌≡◌}
use Rattle.words.specs.Choice.{pick}
use Rattle.slots.specs.Claims.{goes_to}
use Rattle.unit.specs.declared.State.{State}
use Rattle.unit.specs.TheUnit.{channel}
use Rattle.unit.specs.OneTick.{service_in, tick}
use Rattle.unit.specs.Pending.{is_matched}
use Rattle.unit.specs.Calls.{Call}
use Rattle.unit.specs.Takes.{pending}
use Rattle.history.specs.Moments.{Act, Ticks, Writes, Nothing, does, Typed, priority_of}
use Rattle.history.specs.Always.{StateIn}

-- a request of 10 or 11, or a match that has happened, waits to be served
unfoldable pub Waiting : ℕ → State → Type 0
Waiting c s = (2 ≤ pending c s) ⊎ (is_matched (channel s c).phase ≡ true)

-- as each tick of the list begins the priority of c is l
unfoldable pub AtLevel : ℕ → ℕ → State → List Act → Type 0
AtLevel l c s [] = Unit {0}
AtLevel l c s (Ticks ∷ xs) = (priority_of c s ≡ l) × AtLevel l c (tick s) xs
AtLevel l c s (Writes a v ∷ xs) = AtLevel l c (does (Writes a v) s) xs
AtLevel l c s (Nothing ∷ xs) = AtLevel l c s xs

unfoldable pub ticks_of : List Act → ℕ
ticks_of [] = 0
ticks_of (Ticks ∷ xs) = suc (ticks_of xs)
ticks_of (Writes a v ∷ xs) = ticks_of xs
ticks_of (Nothing ∷ xs) = ticks_of xs

-- the number of the tick whose slot goes to c, from 1 on; where none does, one more than there are ticks
unfoldable pub turn_in : ℕ → State → List Act → ℕ
turn_in c s [] = 1
turn_in c s (Ticks ∷ xs) = pick (goes_to c (service_in s)) 1 (suc (turn_in c (tick s) xs))
turn_in c s (Writes a v ∷ xs) = turn_in c (does (Writes a v) s) xs
turn_in c s (Nothing ∷ xs) = turn_in c s xs

-- `Listed` says which lists of calls are meant: of every state of their histories, and whatever happens from there on, to this channel and
-- to all others
abbrev pub ServedWithinOf : (List Call → Type 0) → Type 0
ServedWithinOf Listed =
    (calls : List Call) (s : State) → StateIn Listed calls s → (xs : List Act) (c l : ℕ) → c < 16 → l ≢ 0
    → Waiting c s → AtLevel l c s xs → 112 ≤ ticks_of xs → turn_in c s xs ≤ 112

-- of any list of calls whose written values are words
abbrev pub ServedWithin : Type 0
ServedWithin = ServedWithinOf Typed
