-- What holds in every history: a motor steps only where each of its channels was set up. The buyer's term 1; document 01, questions 5 to 7.
use Rattle.std.specs.Prelude.{ℕ, ◌≤◌, ◌<◌, true, false, List, ◌++◌, ◌≢◌, ◌⊎◌, ◌≡◌}
use Rattle.words.specs.declared.Timer.TheVariants.{Tcr1, Tcr2}
use Rattle.words.specs.Field.{field, bit_of}
use Rattle.words.specs.Rotation.{rotated_right}
use Rattle.motor.specs.declared.Phase.TheVariants.{Matched}
use Rattle.motor.specs.Group.{time_set}
use Rattle.unit.specs.declared.State.{State}
use Rattle.unit.specs.TheUnit.{reset_state, reg, pin, request, reaches, is_bound, function, channel, word, channel_control, pin_control, position, mod_count, last, stepping}
use Rattle.history.specs.OneStep.{Enabled, IsServed, clock_of, acts_at}
use Rattle.unit.specs.OneTick.{tick}
use Rattle.unit.specs.Gate.{otherwise_zero, span_good}
use Rattle.unit.specs.Calls.{Call}
use Rattle.unit.specs.Takes.{pending, MayStep}
use Rattle.history.specs.Moments.{Act, acts, through, Typed, SetsGoing}

-- a channel of a group whose MOD_CNT is m: of function 13, initialised, its CHANNEL_CONTROL its PIN_CONTROL turned right by m
pub record ChannelShown (m j : ℕ) (s : State) : Type 0 where
  pub stepper : function s j ≡ 13
  pub initialised : (channel s j).initialised ≡ true
  pub pattern : channel_control s j ≡ rotated_right (pin_control s j) m

-- the group of the primary p: words 4 and 5 well formed, and each of its channels
pub record GroupShown (p : ℕ) (s : State) : Type 0 where
  pub span : span_good s p ≡ true
  pub rates : otherwise_zero (word s p 4) ≡ true
  pub channels : (j : ℕ) → p ≤ j → j ≤ last s p → ChannelShown (mod_count s p) j s

-- each channel of the group of p is of the kind that the record of the group names. Paper 02, #106
abbrev pub OneKind : ℕ → State → Type 0
OneKind p s = (j : ℕ) → p ≤ j → j ≤ last s p → (channel s j).kind ≡ (channel s p).timer

-- `Listed` says which lists of calls are meant. The calls are such a list, and s is a state of their history: right after a call, or
-- after a tick inside an advance.
pub record StateIn (Listed : List Call → Type 0) (calls : List Call) (s : State) : Type 0 where
  pub listed : Listed calls
  pub before : List Act
  pub rest : List Act
  pub cut : acts calls ≡ before ++ rest
  pub reached : s ≡ through reset_state before

-- of any list of calls whose written values are words
abbrev pub StateOf : List Call → State → Type 0
StateOf = StateIn Typed

-- the initialise that was pending is done: the pin is bit 15 of PIN_CONTROL
pub record ByInitialise (j : ℕ) (s : State) : Type 0 where
  pub pending : request s j ≡ 2
  pub level : pin (tick s) j ≡ bit_of (pin_control s j) 15

-- a match of the group of `primary`, which has the channel, acts: the one that was set falls due, or the one of a step is already due at
-- its set-up. The pin is the level prepared for it.
pub record ByMatch (j : ℕ) (s : State) : Type 0 where
  pub primary : ℕ
  pub reached : reaches s j primary ≡ true
  pub level : ((acts_at (channel s primary).phase (clock_of primary (tick s)) ≡ true) × (pin (tick s) j ≡ (channel s j).level))
      ⊎ (((channel (tick s) primary).phase ≡ Matched (clock_of primary (tick s)) (time_set (channel (tick s) primary).phase)) × (pin (tick s) j ≡ (channel (tick s) j).level))

-- a tick from s to t leaves every word of channel j but CHANNEL_CONTROL, and its motor at rest
pub record LeavesWords (j : ℕ) (s t : State) : Type 0 where
  pub words : (i : ℕ) → 1 ≤ i → i < 8 → word t j i ≡ word s j i
  pub rests : stepping t j ≡ false

-- Document 01, Initialise, in a tick from s to t: the pin by the two lowest bits of CHANNEL_CONTROL, which then is the pattern; the flag of
-- a channel that is set up; its status bit; no request left; and all else of the channel as before
pub record InitialiseIs (j : ℕ) (s t : State) : Type 0 where
  pub high : field 2 (channel_control s j) 0 ≡ 1 → pin t j ≡ true
  pub low : field 2 (channel_control s j) 0 ≡ 2 → pin t j ≡ false
  pub either : (field 2 (channel_control s j) 0 ≡ 1) ⊎ (field 2 (channel_control s j) 0 ≡ 2)
  pub control : channel_control t j ≡ pin_control s j
  pub others : LeavesWords j s t
  pub set-up : (channel t j).initialised ≡ true
  -- its kind from then on, by bits 8 to 5 of CHANNEL_CONTROL before the pattern comes there. Paper 02, #106
  pub fast : field 4 (channel_control s j) 5 ≡ 4 → (channel t j).kind ≡ Tcr1
  pub slow : field 4 (channel_control s j) 5 ≡ 7 → (channel t j).kind ≡ Tcr2
  pub timed : (field 4 (channel_control s j) 5 ≡ 4) ⊎ (field 4 (channel_control s j) 5 ≡ 7)
  pub status : field 1 (reg t 11) j ≡ 1
  pub gone : pending j t ≡ 0

-- and nothing of that
pub record Untouched (j : ℕ) (s t : State) : Type 0 where
  pub pin : pin t j ≡ pin s j
  pub control : channel_control t j ≡ channel_control s j
  pub others : LeavesWords j s t
  pub set-up : (channel t j).initialised ≡ (channel s j).initialised
  pub status : bit_of (reg t 11) j ≡ bit_of (reg s 11) j

-- an initialise, 10, is pending in HSRR
unfoldable pub Pending : ℕ → State → Type 0
Pending j s = pending j s ≡ 2

-- what is claimed of every list of calls that is `Listed`
pub record AlwaysOf (Listed : List Call → Type 0) : Type 0 where
  -- a bound group is set up and shows its pattern
  pub shown : (calls : List Call) (s : State) → StateIn Listed calls s → (p : ℕ) → p < 16 → stepping s p ≡ true → GroupShown p s
  -- and of one kind
  pub one-kind : (calls : List Call) (s : State) → StateIn Listed calls s → (p : ℕ) → p < 16 → stepping s p ≡ true → OneKind p s
  -- an initialised channel that is not bound shows bit 15 of its CHANNEL_CONTROL
  pub rests : (calls : List Call) (s : State) → StateIn Listed calls s → (j : ℕ) → j < 16 → is_bound s j ≡ false → (channel s j).initialised ≡ true
      → pin s j ≡ bit_of (channel_control s j) 15
  -- where a tick changes a pin, its channel was initialised or a match of its group acted
  pub pins : (calls : List Call) (s : State) → StateIn Listed calls s → (j : ℕ) → j < 16 → pin (tick s) j ≢ pin s j → ByInitialise j s ⊎ ByMatch j s
  -- a position changes in a tick only while its group is under way, so only while each of its channels is set up
  pub moves : (calls : List Call) (s : State) → StateIn Listed calls s → (p : ℕ) → p < 16 → position (tick s) p ≢ position s p → (stepping s p ≡ true) × GroupShown p s
  -- a step request, 11, is pending only of a group under way, so that no tick sets a motor going
  pub under-way : (calls : List Call) (s : State) → StateIn Listed calls s → (p : ℕ) → p < 16 → pending p s ≡ 3 → stepping s p ≡ true
  -- where a write sets a resting motor going, whatever else its word asks for, the state before it has the numbers of questions 2 to 9
  pub questions : (calls : List Call) (s : State) → StateIn Listed calls s → (c a v : ℕ) → SetsGoing c a v s → MayStep c s
  -- a channel whose priority is 00 is not served. Paper 02, #107
  pub enabled : (calls : List Call) (s : State) → StateIn Listed calls s → (j : ℕ) → j < 16 → IsServed j s → Enabled j s
  -- an initialise is done in the tick whose slot goes to its channel; `ServedWithin` says when that comes
  pub initialises : (calls : List Call) (s : State) → StateIn Listed calls s → (j : ℕ) → j < 16 → Pending j s → IsServed j s → InitialiseIs j s (tick s)
  -- and nothing else in a tick changes a kind; no write does (`WritesLeave`)
  pub kinds : (calls : List Call) (s : State) → StateIn Listed calls s → (j : ℕ) → j < 16 → (channel (tick s) j).kind ≢ (channel s j).kind
      → Pending j s × IsServed j s
  -- a channel that is not bound, with no initialise pending or not served, is left
  pub untouched : (calls : List Call) (s : State) → StateIn Listed calls s → (j : ℕ) → j < 16 → is_bound s j ≡ false → (Pending j s → IsServed j s → ⊥)
      → Untouched j s (tick s)
  -- a request of either kind is gone after the tick that serves its channel, and stays in every other: one service a tick. Paper 02, #107
  pub done : (calls : List Call) (s : State) → StateIn Listed calls s → (j : ℕ) → j < 16 → 2 ≤ pending j s → IsServed j s → pending j (tick s) ≡ 0
  pub waits : (calls : List Call) (s : State) → StateIn Listed calls s → (j : ℕ) → j < 16 → (IsServed j s → ⊥) → pending j (tick s) ≡ pending j s

-- of every list of calls whose written values are words
abbrev pub Always : Type 0
Always = AlwaysOf Typed
