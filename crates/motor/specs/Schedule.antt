-- The schedule of a move: how many counts after the first service each match falls, by the timer of the group, and what each service
-- finds. It knows the motor, the two controls and nothing else. Paper 02, #105 as #107 restates it, and #113. The claim: `Schedules`.
use Rattle.std.specs.Prelude.{ℕ, zero, suc, ◌+◌, ◌-◌, ◌/◌, ◌%◌, ◌≤◌, ◌<◌, Bool, true, false, List, [], ◌∷◌, ◌≢◌, ◌≡◌}
use Rattle.words.specs.declared.Timer.{Timer}
use Rattle.words.specs.declared.Timer.TheVariants.{Tcr1, Tcr2}
use Rattle.words.specs.declared.Timers.{Timers}
use Rattle.words.specs.Clock.{later}
use Rattle.motor.specs.declared.Motor.{Motor}
use Rattle.motor.specs.declared.Phase.{Phase}
use Rattle.motor.specs.declared.Phase.TheVariants.{Resting, Requested, Armed, Matched}
use Rattle.motor.specs.declared.Outcome.{Outcome}
use Rattle.motor.specs.declared.Outcome.TheVariants.{Arrived, Step}
use Rattle.motor.specs.Stepping.{period, on_request, on_match, moved}
use Rattle.motor.specs.Track.{Valid}
use Rattle.motor.specs.Group.{Group, time_of, tick, pending, Prompt}
use Rattle.motor.specs.Count.{Running, Keeps, NoTarget}
use Rattle.motor.specs.GroupCount.{Act, Ticks, Aims, Alters, next, moments, final, Fair, SetGoing}

-- ---- the walk

unfoldable pub went_on : Outcome → Motor → Motor
went_on Arrived m = m
went_on (Step w k) m = moved w k m

-- what service n decides: the first is that of the request, the others are matches
unfoldable pub decides_at : ℕ → Motor → Outcome
decides_at zero m = on_request m
decides_at (suc n) m = on_match m

-- the motor after n services
unfoldable pub walked : ℕ → Motor → Motor
walked zero m = m
walked (suc n) m = went_on (decides_at n (walked n m)) (walked n m)

-- the n-th match, in counts from the first service
unfoldable pub match_at : ℕ → ℕ → ℕ → Motor → ℕ
match_at cntl0 cntl1 zero m = 0
match_at cntl0 cntl1 (suc n) m = match_at cntl0 cntl1 n m + period cntl0 cntl1 (walked n m).rate

-- ---- a group on it

-- by how much its timer rises in the next tick
unfoldable pub rise : Timer → Timers → ℕ
rise Tcr1 t = 1
rise Tcr2 t = (t.tcr1 % 8 + 1) / 8

-- the counts of its timer in which all this happens
unfoldable pub counts : Group → List Act → ℕ
counts g [] = 0
counts g (Ticks ours q ∷ acts) = rise g.timer g.timers + counts (tick ours q g) acts
counts g (Aims t ∷ acts) = counts (next (Aims t) g) acts
counts g (Alters l s ∷ acts) = counts (next (Alters l s) g) acts

-- After n steps, e counts from the first service, which was at the time f: the n-th match is set and still to come, or has happened, or
-- the run is over.
unfoldable pub Stands : ℕ → ℕ → Motor → ℕ → ℕ → ℕ → Phase → Type 0
Stands cntl0 cntl1 m f e n Resting = (decides_at n (walked n m) ≡ Arrived) × (match_at cntl0 cntl1 n m ≤ e)
Stands cntl0 cntl1 m f e n Requested = ⊥
Stands cntl0 cntl1 m f e n (Armed time) =
    (time ≡ later f (match_at cntl0 cntl1 n m)) × (1 ≤ n) × (e < match_at cntl0 cntl1 n m) × (match_at cntl0 cntl1 n m ≤ e + 0x7fff)
    × (match_at cntl0 cntl1 (n - 1) m ≤ e)
Stands cntl0 cntl1 m f e n (Matched captured time) =
    (captured ≡ later f (match_at cntl0 cntl1 n m)) × (1 ≤ n) × (match_at cntl0 cntl1 n m ≤ e) × (e ≤ match_at cntl0 cntl1 n m + 111)

pub record OnSchedule (cntl0 cntl1 : ℕ) (m : Motor) (f e : ℕ) (g : Group) : Type 0 where
  pub steps : ℕ
  pub motor : g.motor ≡ walked steps m
  pub under-way : (k : ℕ) → k < steps → decides_at k (walked k m) ≡ Arrived → ⊥
  pub phase : Stands cntl0 cntl1 m f e steps g.phase
  pub time : time_of g ≡ later f e
  pub first : g.cntl0 ≡ cntl0
  pub second : g.cntl1 ≡ cntl1

-- how many matches have acted, so how often its pins have changed, after n steps
unfoldable pub acted : ℕ → Phase → ℕ
acted n Resting = n
acted n Requested = n
acted n (Armed time) = n - 1
acted n (Matched captured time) = n

pub record Schedules : Type 0 where
  -- Whatever else happens and however late its services come, if from the request on it keeps one level that is not 00 and no target is
  -- taken: the group g is served for the first time in the tick with `q`, and `acts` follow.
  pub on-schedule : (g : Group) (q : ℕ → ℕ) (acts : List Act) (l : ℕ)
      → let h : Group = tick true q g in
      SetGoing g → Prompt true q g → g.level ≡ l → l ≢ 0
      → Fair h acts → Running (moments h acts) → NoTarget (moments h acts) → Keeps l (moments h acts)
      → OnSchedule g.cntl0 g.cntl1 g.motor (time_of h) (counts h acts) (final h acts)
  -- Two groups on one schedule have had as many matches after as many counts, whenever their first services were; and where neither has a
  -- match pending, their motors are the same.
  pub same : (cntl0 cntl1 : ℕ) (m : Motor) (f f' e : ℕ) (g h : Group)
      → Valid m → m.rate ≡ 1 → 128 ≤ period cntl0 cntl1 m.top
      → (s : OnSchedule cntl0 cntl1 m f e g) → (t : OnSchedule cntl0 cntl1 m f' e h)
      → (acted s.steps g.phase ≡ acted t.steps h.phase)
      × (pending g.phase ≡ false → pending h.phase ≡ false → g.motor ≡ h.motor)
