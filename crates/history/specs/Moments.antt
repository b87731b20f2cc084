-- What a list of calls does, moment by moment, and what is seen of a primary in it. Document 01, "The words of term 3".
use Rattle.std.specs.Prelude.{ℕ, ◌+◌, ◌-◌, ◌*◌, ◌/◌, ◌%◌, ◌≤◌, Bool, true, false, ◌&&◌, List, [], ◌∷◌, ◌++◌, ◌≡◌, ltb, eqb, replicate}
use Rattle.words.specs.Choice.{pick}
use Rattle.words.specs.Field.{field}
use Rattle.motor.specs.Count.{Sight, Event, Tick, Target, Other, Moment}
use Rattle.unit.specs.declared.State.{State}
use Rattle.unit.specs.TheUnit.{hsrr_of, reg, status, position, target, next_rate, is_bound}
use Rattle.unit.specs.OneTick.{tick}
use Rattle.unit.specs.declared.Place.{Place}
use Rattle.unit.specs.declared.Place.TheVariants.{AtRegister, AtWord, AtLate, Nowhere}
use Rattle.unit.specs.Gate.{place, advance_good}
use Rattle.unit.specs.Calls.{is_taken, write_of, Call, Read, Write, Advance}

-- what happens, one after another: a tick, a write, taken or not, or nothing: a read, or an advance that is refused
pub data Act : Type 0 where
  Ticks : Act
  Writes : ℕ → ℕ → Act
  Nothing : Act

unfoldable pub acts_of : Call → List Act
acts_of (Read a) = Nothing ∷ []
acts_of (Write a v) = Writes a v ∷ []
acts_of (Advance n lent) = pick (advance_good n lent) (replicate n Ticks) (Nothing ∷ [])

unfoldable pub acts : List Call → List Act
acts [] = []
acts (x ∷ xs) = acts_of x ++ acts xs

unfoldable pub does : Act → State → State
does Ticks s = tick s
does (Writes a v) s = (write_of s a v).state
does Nothing s = s

unfoldable pub through : State → List Act → State
through s [] = s
through s (x ∷ xs) = through (does x s) xs

-- the values that are written are words
unfoldable pub Typed : List Call → Type 0
Typed [] = Unit {0}
Typed (Read a ∷ xs) = Typed xs
Typed (Write a v ∷ xs) = (v ≤ 0xffff) × Typed xs
Typed (Advance n lent ∷ xs) = Typed xs

-- ---- what is seen of a primary

-- the priority of c: its two bits of CPR0, register 9, for channels 15 to 8, else of CPR1, register 10
unfoldable pub priority_of : ℕ → State → ℕ
priority_of c s = field 2 (reg s (9 + (1 - c / 8))) (2 * (c % 8))

unfoldable pub see : ℕ → State → Sight
see c s =
    record { position = position s c; rate = next_rate s c; target = target s c; bound = is_bound s c; status = status s c; level = priority_of c s }

-- the place is DESIRED_POSITION of the channel c
unfoldable pub is_target_of : ℕ → Place → Bool
is_target_of c (AtRegister i) = false
is_target_of c (AtWord j i) = eqb j c && eqb i 3
is_target_of c (AtLate j) = false
is_target_of c Nowhere = false

-- the word v there has a step request of the channel c
unfoldable pub is_step_of : ℕ → ℕ → Place → Bool
is_step_of c v (AtRegister i) = eqb i (hsrr_of c) && (ltb c 16 && eqb (field 2 v (2 * (c % 8))) 3)
is_step_of c v (AtWord j i) = false
is_step_of c v (AtLate j) = false
is_step_of c v Nowhere = false

-- a taken write to the target's word is a target taken
unfoldable pub event_of : ℕ → Act → State → Event
event_of c Ticks s = Tick
event_of c (Writes a v) s = pick (is_target_of c (place a) && is_taken (write_of s a v).answer) Target Other
event_of c Nothing s = Other

unfoldable pub moments : ℕ → State → List Act → List Moment
moments c s [] = []
moments c s (x ∷ xs) = record { was = see c s; event = event_of c x s; is = see c (does x s) } ∷ moments c (does x s) xs

-- the beginning of a run: of an unbound primary a step request is taken
pub record SetsGoing (c a v : ℕ) (s : State) : Type 0 where
  pub step : is_step_of c v (place a) ≡ true
  pub taken : is_taken (write_of s a v).answer ≡ true
  pub resting : is_bound s c ≡ false
