-- Paper 02, #105 as #107 restates it: the pins that one move drives, and its position, in two runs. The claim: `OneMove`.
use Rattle.std.specs.Prelude.{ℕ, ◌+◌, ◌≤◌, ◌<◌, true, false, List, [], ◌∷◌, ◌++◌, ◌≢◌, ◌≡◌}
use Rattle.slots.specs.Claims.{goes_to}
use Rattle.motor.specs.Count.{Target, Running, Keeps}
use Rattle.motor.specs.Schedule.{rise}
use Rattle.unit.specs.declared.State.{State}
use Rattle.unit.specs.TheUnit.{reset_state, pin, channel, position, mod_count, next_rate, last, is_bound}
use Rattle.unit.specs.OneTick.{service_in, tick}
use Rattle.unit.specs.Pending.{is_matched}
use Rattle.unit.specs.Calls.{Call}
use Rattle.history.specs.Moments.{Act, Ticks, Writes, Nothing, acts, does, through, Typed, event_of, moments, SetsGoing}
use Rattle.isolation.specs.Row.{Row, in_row, felt, Apart}
use Rattle.isolation.specs.Abreast.{Abreast}

-- ---- what is asked of a run

-- no target of a channel of the row is taken while it is bound
unfoldable pub Untouched : Row → State → List Act → Type 0
Untouched r s [] = Unit {0}
Untouched r s (x ∷ xs) = ((p : ℕ) → in_row r p ≡ true → is_bound s p ≡ true → event_of p x s ≢ Target) × Untouched r (does x s) xs

-- no slot goes to c
unfoldable pub Unserved : ℕ → State → List Act → Type 0
Unserved c s [] = Unit {0}
Unserved c s (Ticks ∷ xs) = (goes_to c (service_in s) ≡ false) × Unserved c (tick s) xs
Unserved c s (Writes a v ∷ xs) = Unserved c (does (Writes a v) s) xs
Unserved c s (Nothing ∷ xs) = Unserved c s xs

-- the counts of the timer by which the group of c goes, in all that happens
unfoldable pub counts_of : ℕ → State → List Act → ℕ
counts_of c s [] = 0
counts_of c s (Ticks ∷ xs) = rise (channel s c).timer s.timers + counts_of c (tick s) xs
counts_of c s (Writes a v ∷ xs) = counts_of c (does (Writes a v) s) xs
counts_of c s (Nothing ∷ xs) = counts_of c s xs

-- A run from reset, cut: what came `before`, the write of `v` to `a` that sets the motor going, what happens while it `waits` for its first
-- service, the tick of that service, what has happened `since`, and the `rest`.
pub record Course : Type 0 where
  pub calls : List Call
  pub before : List Act
  pub a : ℕ
  pub v : ℕ
  pub waits : List Act
  pub since : List Act
  pub rest : List Act

abbrev pub at_request : Course → State
at_request k = through reset_state k.before

abbrev pub at_start : Course → State
at_start k = does (Writes k.a k.v) (at_request k)

-- right before the tick of its first service, and right after
abbrev pub at_service : Course → State
at_service k = through (at_start k) k.waits

abbrev pub at_first : Course → State
at_first k = tick (at_service k)

abbrev pub at_now : Course → State
at_now k = through (at_first k) k.since

-- from the request on
abbrev pub from_request : Course → List Act
from_request k = k.waits ++ (Ticks ∷ k.since)

-- The cut is one of a list of calls that is `Listed`, c a primary of the row, and the request sets it going.
pub record CourseOf (Listed : List Call → Type 0) (r : Row) (c : ℕ) (k : Course) : Type 0 where
  pub listed : Listed k.calls
  pub whole : acts k.calls ≡ k.before ++ (Writes k.a k.v ∷ (k.waits ++ (Ticks ∷ (k.since ++ k.rest))))
  pub starts : SetsGoing c k.a k.v (at_request k)
  -- its first service is in the tick after `waits`
  pub unserved : Unserved c (at_start k) k.waits
  pub served : goes_to c (service_in (at_service k)) ≡ true
  -- its end has not come before
  pub running : Running (moments c (at_first k) k.since)
  -- its group lies inside the row
  pub inside : last (at_request k) c ≤ r.final
  -- from reset up to now no target is written while bound
  pub untouched : Untouched r reset_state (k.before ++ (Writes k.a k.v ∷ from_request k))
  -- at each moment since the request the priority of c is this one, and that is not 00
  pub level : ℕ
  pub kept : Keeps level (moments c (at_start k) (from_request k))
  pub enabled : level ≢ 0

-- the two agree in the group of c, from c to the last channel as the request found it
pub record Agree (c : ℕ) (s t : State) (final : ℕ) : Type 0 where
  -- in its pins
  pub pins : (j : ℕ) → c ≤ j → j ≤ final → pin s j ≡ pin t j
  -- and once each match is served, in its position; and in MOD_CNT and the next rate
  pub position : is_matched (channel s c).phase ≡ false → is_matched (channel t c).phase ≡ false → position s c ≡ position t c
  pub count : is_matched (channel s c).phase ≡ false → is_matched (channel t c).phase ≡ false → mod_count s c ≡ mod_count t c
  pub rate : is_matched (channel s c).phase ≡ false → is_matched (channel t c).phase ≡ false → next_rate s c ≡ next_rate t c

-- The move of c in both, looked at after as many counts since each was first served, where the row felt the same before the request.
pub record OneMoveOf (Listed : List Call → Type 0) : Type 0 where
  pub alike : (r : Row) (c : ℕ) → r.final < 16 → in_row r c ≡ true → (x y : Course) → CourseOf Listed r c x → CourseOf Listed r c y
      → felt r reset_state x.before ≡ felt r reset_state y.before
      → counts_of c (at_first x) x.since ≡ counts_of c (at_first y) y.since
      → Agree c (at_now x) (at_now y) (last (at_request x) c)
  -- #105's premise about writes, in its own words, gives that the row has felt the same
  pub side_by_side : (r : Row) (xs ys : List Call) → Listed xs → Listed ys
      → (before later : List Act) → acts xs ≡ before ++ later → (then next : List Act) → acts ys ≡ then ++ next
      → Abreast r reset_state reset_state before then → felt r reset_state before ≡ felt r reset_state then
  -- and its premise about groups, that this one's lies inside the row
  pub group-inside : (r : Row) (c : ℕ) → in_row r c ≡ true → (xs : List Call) → Listed xs
      → (before later : List Act) (a v : ℕ) → acts xs ≡ before ++ (Writes a v ∷ later)
      → SetsGoing c a v (through reset_state before) → Apart r reset_state (before ++ (Writes a v ∷ [])) → last (through reset_state before) c ≤ r.final

-- of every two lists of calls whose written values are words
abbrev pub OneMove : Type 0
OneMove = OneMoveOf Typed
