-- Term 3, about every list of calls from reset. Its words are those of crate motor, `Count`.
use Rattle.std.specs.Prelude.{ℕ, ◌+◌, ◌*◌, ◌≤◌, true, false, List, [], ◌∷◌, ◌++◌, ◌≡◌, ◌≢◌, replicate, Err}
use Rattle.words.specs.declared.Timer.{Timer}
use Rattle.words.specs.declared.Timer.TheVariants.{Tcr1, Tcr2}
use Rattle.motor.specs.Stepping.{period}
use Rattle.motor.specs.Track.{distance}
use Rattle.motor.specs.Count.{Target, Moment, UnderWay, UpToArrival, Keeps, NoTarget, Undisturbed, Dark, EndsInTick, ticks_in, longest_wait, steps, Counted, Arrives}
use Rattle.unit.specs.declared.State.{State}
use Rattle.unit.specs.TheUnit.{reset_state, channel, position, target, next_rate, status, cntl0, cntl1, last, is_bound}
use Rattle.unit.specs.Gate.{advance_good}
use Rattle.unit.specs.Calls.{write_of, advance_of, lent_after, Call, Read, run, is_taken}
use Rattle.unit.specs.Calls as calls
use Rattle.history.specs.OneStep.{WholeSteps}
use Rattle.history.specs.Moments.{Act, Ticks, Writes, acts, does, through, Typed, see, event_of, moments, SetsGoing}
use Rattle.unit.specs.declared.Refusal.{Refusal}

-- ---- the calls and what happens are the same thing

pub record CallsAre : Type 0 where
  -- the state that a list of calls returns is the one after what happens in it
  pub run_is : (s : State) (xs : List Call) → run s xs ≡ through s (acts xs)
  -- an advance by n returns the state after n ticks
  pub advance-is : (s : State) (n : ℕ) (lent : List ℕ) → advance_good n lent ≡ true → (advance_of s n lent).state ≡ through s (replicate n Ticks)
  -- a read returns the state, and so does a call that is refused; it leaves the lent list
  pub read_keeps : (s : State) (a : ℕ) → calls.after (Read a) s ≡ s
  pub write_keeps : (s : State) (a v : ℕ) (r : Refusal) → (write_of s a v).answer ≡ Err r → (write_of s a v).state ≡ s
  pub advance-keeps : (s : State) (n : ℕ) (lent : List ℕ) (r : Refusal) → (advance_of s n lent).answer ≡ Err r → ((advance_of s n lent).state ≡ s)
      × (lent_after s n lent ≡ lent)

-- ---- a run, cut anywhere

-- so many counts of a timer in ticks: one each by TCR1, eight by TCR2. Paper 02, #106
unfoldable pub in_ticks : Timer → ℕ → ℕ
in_ticks Tcr1 counts = counts
in_ticks Tcr2 counts = 8 * counts

-- P(1) in ticks, by the timer that the record of the group of c names: no step of it takes longer
unfoldable pub longest_step : ℕ → State → ℕ
longest_step c s = in_ticks (channel s c).timer (period (cntl0 s c) (cntl1 s c) 1)

-- what the arrival gives back: no channel of the group is bound, and CURRENT_POSITION can be written
pub record Freed (c : ℕ) (s : State) : Type 0 where
  pub unbound : (j : ℕ) → c ≤ j → j ≤ last s c → is_bound s j ≡ false
  pub writable : (v : ℕ) → is_taken (write_of s (0xf04 + 16 * c) v).answer ≡ true

-- what happens from t on begins with `first`, of at most so many ticks, the last of which leaves the motor c unbound, at the target
-- that it had at t, at next rate 1, with its status bit set
pub record Homed (c : ℕ) (t : State) (now : List Act) : Type 0 where
  pub first : List Act
  pub later : List Act
  pub parts : now ≡ first ++ later
  pub within : ticks_in (moments c t first) ≤ longest_wait (longest_step c t) (distance (position t c) (target t c))
  pub by-tick : EndsInTick (moments c t first)
  pub unbound : is_bound (through t first) c ≡ false
  pub there : position (through t first) c ≡ target t c
  pub same : target (through t first) c ≡ target t c
  pub slowest : next_rate (through t first) c ≡ 1
  pub lit : status (through t first) c ≡ true

-- For every list of calls from reset, every primary c and every cut of what happens in it into what came `before`, a write that
-- sets the resting motor going, what has `gone` of its run, what is `now` counted, and the `rest`.
pub record Run : Type 0 where
  pub calls : List Call
  pub c : ℕ
  pub a : ℕ
  pub v : ℕ
  pub before : List Act
  pub gone : List Act
  pub now : List Act
  pub rest : List Act

abbrev pub at_request : Run → State
at_request r = through reset_state r.before

abbrev pub at_start : Run → State
at_start r = does (Writes r.a r.v) (at_request r)

abbrev pub at_count : Run → State
at_count r = through (at_start r) r.gone

abbrev pub at_end : Run → State
at_end r = through (at_count r) r.now

abbrev pub moments_gone : Run → List Moment
moments_gone r = moments r.c (at_start r) r.gone

abbrev pub moments_now : Run → List Moment
moments_now r = moments r.c (at_count r) r.now

-- `Listed` says which lists of calls are meant. The cut is one of such a list, the request sets the motor going, and no tick before
-- the count begins is its arrival. That the request binds the motor is no premise: it is claimed, `begins`.
pub record CutOf (Listed : List Call → Type 0) (r : Run) : Type 0 where
  pub listed : Listed r.calls
  pub whole : acts r.calls ≡ r.before ++ (Writes r.a r.v ∷ (r.gone ++ (r.now ++ r.rest)))
  pub starts : SetsGoing r.c r.a r.v (at_request r)
  pub under-way : UnderWay (moments_gone r)

-- of any list of calls whose written values are words
abbrev pub Cut : Run → Type 0
Cut = CutOf Typed

-- what is claimed of every list of calls that is `Listed`
pub record Term3Of (Listed : List Call → Type 0) : Type 0 where
  -- a taken request of a resting motor binds it, and it stays bound until a tick: targets, other calls and refused ones leave it so
  pub begins : (r : Run) → CutOf Listed r → is_bound (at_start r) r.c ≡ true
  pub goes_on : (r : Run) → CutOf Listed r → is_bound (at_count r) r.c ≡ true
  -- up to the arrival or the next target taken
  pub counted : (r : Run) → CutOf Listed r → UpToArrival (moments_now r) → NoTarget (moments_now r)
      → Counted (longest_step r.c (at_count r)) (see r.c (at_start r)) (moments_gone r) (moments_now r)
  -- document 01 counts from the request, and from a target taken; its target is then the word that was written
  pub from-request : (calls : List Call) (before now rest : List Act) (c a v : ℕ)
      → let s : State = through reset_state before in
      let t : State = does (Writes a v) s in
      Listed calls → acts calls ≡ before ++ (Writes a v ∷ (now ++ rest)) → SetsGoing c a v s
      → UpToArrival (moments c t now) → NoTarget (moments c t now)
      → Counted (longest_step c t) (see c t) [] (moments c t now)
  pub from-target : (calls : List Call) (before gone now rest : List Act) (c a v b x : ℕ)
      → let s : State = through reset_state before in
      let t : State = does (Writes a v) s in
      let u : State = through t gone in
      let w : State = does (Writes b x) u in
      Listed calls → acts calls ≡ before ++ (Writes a v ∷ (gone ++ (Writes b x ∷ (now ++ rest)))) → SetsGoing c a v s
      → UnderWay (moments c t gone) → event_of c (Writes b x) u ≡ Target
      → UpToArrival (moments c w now) → NoTarget (moments c w now)
      → (target w c ≡ x) × Counted (longest_step c w) (see c t) (moments c t (gone ++ (Writes b x ∷ []))) (moments c w now)
  -- each tick is one step as under Stepping, or none
  pub whole : (r : Run) → CutOf Listed r → UpToArrival (moments_now r) → WholeSteps r.c (at_count r) r.now
  -- at the arrival
  pub freed : (r : Run) → CutOf Listed r → UpToArrival (moments_now r) → NoTarget (moments_now r) → is_bound (at_end r) r.c ≡ false → Freed r.c (at_end r)
  -- nothing of the run before the count sets the status bit, the request included
  pub dark : (r : Run) → CutOf Listed r → Dark (moments r.c (at_request r) (Writes r.a r.v ∷ r.gone))
  -- at one level that is not 00 from the request on and with no target taken, so many ticks bring it to its target
  pub arrives : (r : Run) → CutOf Listed r → (l : ℕ) → l ≢ 0 → Keeps l (moments_gone r) → Undisturbed l (moments_now r)
      → longest_wait (longest_step r.c (at_count r)) (steps (see r.c (at_start r)) (moments_gone r)) ≤ ticks_in (moments_now r)
      → Arrives (see r.c (at_start r)) (moments_gone r) (moments_now r)
  -- in document 01's words, from the request: steps is then the way to the target
  pub comes_home : (calls : List Call) (before now rest : List Act) (c a v : ℕ)
      → let s : State = through reset_state before in
      let t : State = does (Writes a v) s in
      Listed calls → acts calls ≡ before ++ (Writes a v ∷ (now ++ rest)) → SetsGoing c a v s
      → (l : ℕ) → l ≢ 0 → Keeps l (moments c t now) → NoTarget (moments c t now)
      → longest_wait (longest_step c t) (distance (position t c) (target t c)) ≤ ticks_in (moments c t now)
      → Homed c t now

-- term 3: of every list of calls whose written values are words
abbrev pub Term3 : Type 0
Term3 = Term3Of Typed
