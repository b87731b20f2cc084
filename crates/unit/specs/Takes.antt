-- When a call is taken, in numbers of its own, for every state. Document 01, "Questions at the gate". The claim: `Takes`.
use Rattle.std.specs.Prelude.{ℕ, suc, ◌+◌, ◌-◌, ◌*◌, ◌/◌, ◌%◌, ◌≤◌, ◌<◌, true, false, ◌≡◌, ◌≢◌, ◌⊎◌, List, get_or, length, Err, Ok}
use Rattle.words.specs.declared.Timer.{Timer}
use Rattle.words.specs.Field.{field}
use Rattle.unit.specs.declared.State.{State}
use Rattle.unit.specs.TheUnit.{Whole, reg, channel, word, target, top, cntl0, cntl1, stepping, is_bound}
use Rattle.unit.specs.Gate.{is_free, is_stepper, may_initialise, span_good, group_ready, pattern_good, ramp_good, quick_good, target_good}
use Rattle.unit.specs.Calls.{advance_of, write_of, is_taken}
use Rattle.unit.specs.Readings.{register_address, word_address, Listed, Exists}
use Rattle.unit.specs.Refusals.{Answer}
use Rattle.unit.specs.declared.Refusal.TheVariants.{GroupNotReady, NoSuchAddress, NotFree, OtherFunction, TargetTooFar, TooFast, TooManyTicks, WrongControl, WrongPattern, WrongRamp, WrongSpan}

-- what is pending: two bits of HSRR0, register 7, for channels 15 to 8, else of HSRR1
abbrev pub pending : ℕ → State → ℕ
pending c s = field 2 (reg s (7 + (1 - c / 8))) (2 * (c % 8))

-- unbound, and 00 there
pub record Free (j : ℕ) (s : State) : Type 0 where
  pub unbound : is_bound s j ≡ false
  pub none : pending j s ≡ 0

-- function 13 in CFSR0, register 1, for channels 15 to 12, to CFSR3
unfoldable pub Stepper : ℕ → State → Type 0
Stepper j s = field 4 (reg s (1 + (3 - j / 4))) (4 * (j % 4)) ≡ 13

-- questions 2 to 4
pub record MayInitialise (c : ℕ) (s : State) : Type 0 where
  pub free : Free c s
  pub stepper : Stepper c s
  pub timed : (field 4 (word s c 0) 5 ≡ 4) ⊎ (field 4 (word s c 0) 5 ≡ 7)
  pub high : field 1 (word s c 1) 15 ≡ 1 → field 2 (word s c 0) 0 ≡ 1
  pub low : field 1 (word s c 1) 15 ≡ 0 → field 2 (word s c 0) 0 ≡ 2

-- a channel of a group whose MOD_CNT is m and whose primary is of the kind k: of that kind too, and CHANNEL_CONTROL is PIN_CONTROL rotated
-- right by m places, bit by bit
pub record Member (m : ℕ) (k : Timer) (j : ℕ) (s : State) : Type 0 where
  pub free : Free j s
  pub stepper : Stepper j s
  pub initialised : (channel s j).initialised ≡ true
  pub kind : (channel s j).kind ≡ k
  pub pattern : (i : ℕ) → i < 16 → field 1 (word s j 0) i ≡ field 1 (word s j 1) ((i + m) % 16)

-- questions 2 to 9 with the one of paper 02, #107, after 8; of word 5 N is bits 11 to 8 and the last channel bits 3 to 0, of word 4 MOD_CNT and the next rate are
pub record MayStep (c : ℕ) (s : State) : Type 0 where
  pub zero5 : (field 4 (word s c 5) 12 ≡ 0) × (field 4 (word s c 5) 4 ≡ 0)
  pub least : 1 ≤ field 4 (word s c 5) 8
  pub most : field 4 (word s c 5) 8 ≤ 14
  pub above : c < field 4 (word s c 5) 0
  pub near : field 4 (word s c 5) 0 ≤ c + 7
  pub zero4 : (field 4 (word s c 4) 12 ≡ 0) × (field 4 (word s c 4) 4 ≡ 0)
  pub slow : field 4 (word s c 4) 0 ≡ 1
  pub group : (j : ℕ) → c ≤ j → j ≤ field 4 (word s c 5) 0 → Member (field 4 (word s c 4) 8) (channel s c).kind j s
  -- P(N) is at least 128, P(1) at most $7FFF
  pub fastest : word s (suc c) 2 * (1 + field 4 (word s c 5) 8) + 128 ≤ word s (suc c) 3
  pub slowest : word s (suc c) 3 ≤ 0x7fff + word s (suc c) 2 * 2
  pub target : word s c 3 + field 4 (word s c 5) 8 ≤ 0xffff

-- a step request of a motor that is under way, without a pending one. Document 01, "Questions at the gate": only question 3 follows
pub record MayRepeat (c : ℕ) (s : State) : Type 0 where
  pub bound : stepping s c ≡ true
  pub none : pending c s ≡ 0
  pub stepper : Stepper c s

-- the word v of an HSRR register asks for r of channel c, and nothing of the seven others
pub record AsksOne (r c v : ℕ) : Type 0 where
  pub small : c < 16
  pub own : field 2 v (2 * (c % 8)) ≡ r
  pub others : (k : ℕ) → k < 8 → k ≢ c % 8 → field 2 v (2 * k) < 2

-- what the word v of register i asks of channels below m may be asked of each of them alone, and none that it asks lies in the group of a
-- lower one that it sets going. Document 01, "Questions at the gate": an HSRR word
pub record Together (i v m : ℕ) (s : State) : Type 0 where
  pub initialise : (c : ℕ) → c / 8 ≡ 8 - i → c < m → field 2 v (2 * (c % 8)) ≡ 2 → MayInitialise c s
  pub step : (c : ℕ) → c / 8 ≡ 8 - i → c < m → field 2 v (2 * (c % 8)) ≡ 3 → MayStep c s ⊎ MayRepeat c s
  pub apart : (c j : ℕ) → c / 8 ≡ 8 - i → j / 8 ≡ 8 - i → c < j → j < m
      → field 2 v (2 * (c % 8)) ≡ 3 → stepping s c ≡ false → 2 ≤ field 2 v (2 * (j % 8)) → field 4 (word s c 5) 0 < j

-- $E18 for channels 15 to 8, else $E1A
abbrev pub request_address : ℕ → ℕ
request_address c = 0xe18 + 2 * (1 - c / 8)

-- what a taken word v of an HSRR register leaves of channel c, from s to t: pending is what it asks, or where that is 00 or 01 what was; a
-- step request binds. Where it sets the motor going the record of the group names the timer of the primary's kind, else it stays.
pub record Pends (c v : ℕ) (s t : State) : Type 0 where
  pub asked : 2 ≤ field 2 v (2 * (c % 8)) → pending c t ≡ field 2 v (2 * (c % 8))
  pub left : field 2 v (2 * (c % 8)) < 2 → pending c t ≡ pending c s
  pub goes : field 2 v (2 * (c % 8)) ≡ 3 → stepping t c ≡ true
  pub named : field 2 v (2 * (c % 8)) ≡ 3 → stepping s c ≡ false → (channel t c).timer ≡ (channel s c).kind
  pub keeps : (field 2 v (2 * (c % 8)) ≢ 3) ⊎ (stepping s c ≡ true) → (channel t c).timer ≡ (channel s c).timer

-- the number of the first no: a step request of a motor at rest, and an initialise
pub record StepNumbers (c : ℕ) (s : State) (answer : Answer) : Type 0 where
  pub two : is_free s c ≡ false → answer ≡ Err NotFree
  pub three : is_free s c ≡ true → is_stepper s c ≡ false → answer ≡ Err OtherFunction
  pub five : is_free s c ≡ true → is_stepper s c ≡ true → span_good s c ≡ false → answer ≡ Err WrongSpan
  pub six : is_free s c ≡ true → is_stepper s c ≡ true → span_good s c ≡ true → group_ready s c ≡ false → answer ≡ Err GroupNotReady
  pub seven : is_free s c ≡ true → is_stepper s c ≡ true → span_good s c ≡ true → group_ready s c ≡ true → pattern_good s c ≡ false → answer ≡ Err WrongPattern
  pub eight : is_free s c ≡ true → is_stepper s c ≡ true → span_good s c ≡ true → group_ready s c ≡ true → pattern_good s c ≡ true
      → ramp_good (cntl0 s c) (cntl1 s c) (top s c) ≡ false → answer ≡ Err WrongRamp
  pub fourteen : is_free s c ≡ true → is_stepper s c ≡ true → span_good s c ≡ true → group_ready s c ≡ true → pattern_good s c ≡ true
      → ramp_good (cntl0 s c) (cntl1 s c) (top s c) ≡ true → quick_good (cntl0 s c) (cntl1 s c) (top s c) ≡ false → answer ≡ Err TooFast
  pub nine : is_free s c ≡ true → is_stepper s c ≡ true → span_good s c ≡ true → group_ready s c ≡ true → pattern_good s c ≡ true
      → ramp_good (cntl0 s c) (cntl1 s c) (top s c) ≡ true → quick_good (cntl0 s c) (cntl1 s c) (top s c) ≡ true → target_good s c (target s c) ≡ false → answer ≡ Err TargetTooFar

pub record InitialiseNumbers (c : ℕ) (s : State) (answer : Answer) : Type 0 where
  pub two : is_free s c ≡ false → answer ≡ Err NotFree
  pub three : is_free s c ≡ true → is_stepper s c ≡ false → answer ≡ Err OtherFunction
  pub four : is_free s c ≡ true → is_stepper s c ≡ true → may_initialise s c ≡ false → answer ≡ Err WrongControl

pub record Takes : Type 0 where
  -- question 10
  pub advance : (s : State) (n : ℕ) (lent : List ℕ) → is_taken (advance_of s n lent).answer ≡ true → (n ≤ 4096) × (n ≤ length lent)
  pub advances : (s : State) (n : ℕ) (lent : List ℕ) → n ≤ 4096 → n ≤ length lent → is_taken (advance_of s n lent).answer ≡ true
  -- an initialise is taken just where it may be
  pub initialise : (s : State) (c v : ℕ) → AsksOne 2 c v → is_taken (write_of s (request_address c) v).answer ≡ true → MayInitialise c s
  pub initialises : (s : State) (c v : ℕ) → AsksOne 2 c v → MayInitialise c s → is_taken (write_of s (request_address c) v).answer ≡ true
  -- and so is a step request of a channel that is not bound; the memory holds words
  pub step : (s : State) (c v : ℕ) → AsksOne 3 c v → ((k : ℕ) → get_or s.words k 0 ≤ 0xffff) → is_bound s c ≡ false
      → is_taken (write_of s (request_address c) v).answer ≡ true → MayStep c s
  pub steps : (s : State) (c v : ℕ) → AsksOne 3 c v → ((k : ℕ) → get_or s.words k 0 ≤ 0xffff)
      → MayStep c s → is_taken (write_of s (request_address c) v).answer ≡ true
  -- a group of both kinds gets 6, whichever channel is of another kind than the primary. Paper 02, #106
  pub odd-kind : (s : State) (c v j : ℕ) → AsksOne 3 c v → Free c s → Stepper c s → span_good s c ≡ true → c ≤ j → j ≤ field 4 (word s c 5) 0
      → (channel s j).kind ≢ (channel s c).kind → (write_of s (request_address c) v).answer ≡ Err GroupNotReady
  -- of one that is under way, without a pending request, it is just where the function is 13
  pub again : (s : State) (c v : ℕ) → AsksOne 3 c v → stepping s c ≡ true → pending c s ≡ 0
      → is_taken (write_of s (request_address c) v).answer ≡ true → Stepper c s
  pub agains : (s : State) (c v : ℕ) → AsksOne 3 c v → stepping s c ≡ true → pending c s ≡ 0
      → Stepper c s → is_taken (write_of s (request_address c) v).answer ≡ true
  -- what a taken word of requests does, whatever it asks of other channels
  pub requests : (s : State) (c v : ℕ) → Whole s → c < 16 → is_taken (write_of s (request_address c) v).answer ≡ true
      → Pends c v s (write_of s (request_address c) v).state
  -- a word of register i, HSRR0 or HSRR1, that asks channels which may be asked together is taken
  pub together : (s : State) (i v : ℕ) → Whole s → ((k : ℕ) → get_or s.words k 0 ≤ 0xffff) → 7 ≤ i → i ≤ 8 → Together i v 16 s
      → is_taken (write_of s (register_address i) v).answer ≡ true
  -- the lowest first: the next one asked, j, lies in the group of a lower one that is set going, and gets 2
  pub within : (s : State) (i v c j : ℕ) → Whole s → ((k : ℕ) → get_or s.words k 0 ≤ 0xffff) → 7 ≤ i → i ≤ 8 → Together i v j s
      → c / 8 ≡ 8 - i → field 2 v (2 * (c % 8)) ≡ 3 → MayStep c s
      → j / 8 ≡ 8 - i → 2 ≤ field 2 v (2 * (j % 8)) → c < j → j ≤ field 4 (word s c 5) 0 → (write_of s (register_address i) v).answer ≡ Err NotFree
  -- a target of a primary that is under way is taken just where it is at most $FFFF - N, whatever is pending
  pub target : (s : State) (c v : ℕ) → c < 16 → stepping s c ≡ true → is_taken (write_of s (word_address c 3) v).answer ≡ true → v + field 4 (word s c 5) 8 ≤ 0xffff
  pub targets : (s : State) (c v : ℕ) → c < 16 → stepping s c ≡ true → v + field 4 (word s c 5) 8 ≤ 0xffff → is_taken (write_of s (word_address c 3) v).answer ≡ true
  -- else it gets 9
  pub target-number : (s : State) (c v : ℕ) → c < 16 → stepping s c ≡ true → 0xffff < v + field 4 (word s c 5) 8 → (write_of s (word_address c 3) v).answer ≡ Err TargetTooFar
  -- any other word that exists is taken just where its channel is free
  pub word : (s : State) (c i v : ℕ) → c < 16 → i < 8 → Exists c i → (i ≡ 3 → stepping s c ≡ false) → is_taken (write_of s (word_address c i) v).answer ≡ true → Free c s
  pub words : (s : State) (c i v : ℕ) → c < 16 → i < 8 → Exists c i → (i ≡ 3 → stepping s c ≡ false) → Free c s → is_taken (write_of s (word_address c i) v).answer ≡ true
  -- a CFSR word, register i, just where each of its channels keeps its function or is free
  pub functions : (s : State) (i v : ℕ) → 1 ≤ i → i ≤ 4 → is_taken (write_of s (register_address i) v).answer ≡ true
      → (j : ℕ) → j / 4 ≡ 4 - i → field 4 v (4 * (j % 4)) ≢ field 4 (reg s i) (4 * (j % 4)) → Free j s
  pub functions-all : (s : State) (i v : ℕ) → 1 ≤ i → i ≤ 4 → ((j : ℕ) → j / 4 ≡ 4 - i → field 4 v (4 * (j % 4)) ≢ field 4 (reg s i) (4 * (j % 4)) → Free j s)
      → is_taken (write_of s (register_address i) v).answer ≡ true
  -- CIER, HSQR, CPR and CISR are always taken; so is a missing word, and nothing changes
  pub others : (s : State) (i v : ℕ) → ((i ≡ 0) ⊎ ((5 ≤ i) × (i ≤ 6))) ⊎ ((9 ≤ i) × (i ≤ 11)) → is_taken (write_of s (register_address i) v).answer ≡ true
  pub missing : (s : State) (c i v : ℕ) → c < 14 → 6 ≤ i → i < 8 → write_of s (word_address c i) v ≡ record { answer = Ok tt; state = s }
  -- the numbers else: 1 for an address that is not in document 01's list, where it may be read too (paper 02, #108), and nothing changes; 2 for
  -- a word or a CFSR field of a channel that is not free, 3 for a further request of another function
  pub outside : (s : State) (a v : ℕ) → (Listed a → ⊥) → write_of s a v ≡ record { answer = Err NoSuchAddress; state = s }
  pub word_number : (s : State) (c i v : ℕ) → c < 16 → i < 8 → Exists c i → (i ≡ 3 → stepping s c ≡ false) → (Free c s → ⊥)
      → (write_of s (word_address c i) v).answer ≡ Err NotFree
  pub functions-number : (s : State) (i v j : ℕ) → 1 ≤ i → i ≤ 4 → j / 4 ≡ 4 - i → field 4 v (4 * (j % 4)) ≢ field 4 (reg s i) (4 * (j % 4)) → (Free j s → ⊥)
      → (write_of s (register_address i) v).answer ≡ Err NotFree
  pub again-number : (s : State) (c v : ℕ) → AsksOne 3 c v → stepping s c ≡ true → pending c s ≡ 0 → (Stepper c s → ⊥)
      → (write_of s (request_address c) v).answer ≡ Err OtherFunction
  -- whatever its group does, a channel with a pending request gets 2
  pub busy : (s : State) (c v : ℕ) → AsksOne 3 c v → pending c s ≢ 0 → (write_of s (request_address c) v).answer ≡ Err NotFree
  pub step-numbers : (s : State) (c v : ℕ) → AsksOne 3 c v → stepping s c ≡ false → StepNumbers c s (write_of s (request_address c) v).answer
  pub initialise-numbers : (s : State) (c v : ℕ) → AsksOne 2 c v → InitialiseNumbers c s (write_of s (request_address c) v).answer
  pub advance-number : (s : State) (n : ℕ) (lent : List ℕ) → (4096 < n) ⊎ (length lent < n) → (advance_of s n lent).answer ≡ Err TooManyTicks
