-- A move keeps its schedule, however late its services come: `schedules`.
use Prim.Native.Nat.{ℕ, zero, suc, ◌+◌, ◌-◌, ◌*◌, ◌/◌, ◌%◌, ◌≤◌, ◌<◌}
use native.Mathlib.Omega.{arith}
use mathlib.Core.Bool.{Bool, true, false}
use mathlib.Core.List.{List, [], ◌∷◌}
use mathlib.Core.Path.{◌≡◌, refl, sym, ap, subst, ◌∙◌}
use mathlib.Core.Logic.{◌≢◌, ◌⊎◌, inl, inr, ⊎_elim}
use lib.Dec.{ltb}
use borrow.Author.Tests.{ltb-true, ltb-false}
use Rattle.words.specs.declared.Timer.{Timer}
use Rattle.words.specs.declared.Timer.TheVariants.{Tcr1, Tcr2}
use Rattle.words.specs.declared.Timers.{Timers}
use Rattle.words.specs.Clock.{since, due, later, time_by, onward}
use Rattle.words.proofs.ChoiceLaws.{pick-cases, not-both}
use Rattle.words.proofs.ClockLaws.{later-add, since-later}
use Rattle.motor.specs.declared.Way.{Way}
use Rattle.motor.specs.declared.Motor.{Motor}
use Rattle.motor.specs.declared.Phase.{Phase}
use Rattle.motor.specs.declared.Phase.TheVariants.{Resting, Requested, Armed, Matched}
use Rattle.motor.specs.declared.Outcome.{Outcome}
use Rattle.motor.specs.declared.Outcome.TheVariants.{Arrived, Step}
use Rattle.motor.specs.Stepping.{period, on_request, on_match}
use Rattle.motor.specs.Track.{Valid, Serves}
use Rattle.motor.specs.Group.{Group, time_of, next_time, bound, armed, happened, first_period, outcome, serve, clocked, tick, altered, pending, Prompt, Sound, OnTime, Punctual}
use Rattle.motor.specs.Count.{Running, Keeps, NoTarget, is_target}
use Rattle.motor.specs.GroupCount.{Act, Ticks, Aims, Alters, next, event_of, see, moments, final, Fair, SetGoing}
use Rattle.motor.specs.Schedule.{went_on, decides_at, walked, match_at, rise, counts, Stands, OnSchedule, acted, Schedules}
use Rattle.motor.proofs.OneStep.{one-step}
use Rattle.motor.proofs.OneTick.{period-bounds, armed-late, since-le, still-ahead, now-reached, clocked_to, ticked_to, clocked-sound}
use Rattle.motor.proofs.Counts.{tick-waits, tick-sound, resting-unbound, requested-on-time, altered-on-time, altered-sound}

-- ---- counts of a timer

rises : (k : Timer) (t : Timers) → time_by k (onward 1 t) ≡ later (time_by k t) (rise k t)
unfolding time_by onward rise
rises Tcr1 t = refl
rises Tcr2 t = refl

rise_one : (k : Timer) (t : Timers) → rise k t ≤ 1
unfolding rise
rise_one Tcr1 t = omega arith
rise_one Tcr2 t = omega arith

between : (f a b : ℕ) → a ≤ b → b < a + 65536 → since (later f b) (later f a) ≡ b - a
between f a b h l =
    let e : a + (b - a) ≡ b = omega arith in
    subst (λ z. since z (later f a) ≡ b - a) (later-add f a (b - a) ∙ ap (λ x. later f x) e) (since-later (later f a) (b - a) (omega arith))

next-time : (g : Group) (f e : ℕ) → time_of g ≡ later f e → next_time g ≡ later f (e + rise g.timer g.timers)
next-time g f e h = rises g.timer g.timers ∙ ap (λ x. later x (rise g.timer g.timers)) h ∙ later-add f e (rise g.timer g.timers)

-- ---- a service

one_more : (n : ℕ) (m : Motor) (v : Way) (j : ℕ) → ((k : ℕ) → k < n → decides_at k (walked k m) ≡ Arrived → ⊥) → decides_at n (walked n m) ≡ Step v j
    → (k : ℕ) → k < suc n → decides_at k (walked k m) ≡ Arrived → ⊥
one_more n m v j w o k h e = by (ltb k n) refl
  where
    by : (b : Bool) → ltb k n ≡ b → ⊥
    by true t = w k (ltb-true k n t) e
    by false t =
        let l : n ≤ k = ltb-false k n t in
        let same : k ≡ n = omega arith in
        let a : decides_at n (walked n m) ≡ Arrived = rw same at e in
        let z : ◌≡◌ {A = ℕ} 0 1 = cc in
        omega arith

decides-match : (n : ℕ) → 1 ≤ n → (x : Motor) → decides_at n x ≡ on_match x
unfolding decides_at
decides-match zero h x = absurd (omega arith)
decides-match (suc n) h x = refl

-- The n-th match, or with n = 0 the request, is served e counts after the first service and at most 111 after it happened.
served : (cntl0 cntl1 : ℕ) (m : Motor) (f e n : ℕ) (g : Group) → Sound g → g.motor ≡ walked n m → g.cntl0 ≡ cntl0 → g.cntl1 ≡ cntl1 → time_of g ≡ later f e
    → ((k : ℕ) → k < n → decides_at k (walked k m) ≡ Arrived → ⊥)
    → match_at cntl0 cntl1 n m ≤ e → e ≤ match_at cntl0 cntl1 n m + 111
    → (o : Outcome) → decides_at n (walked n m) ≡ o → OnSchedule cntl0 cntl1 m f e (outcome g (later f (match_at cntl0 cntl1 n m)) o)
unfolding outcome Stands walked went_on match_at first_period
served cntl0 cntl1 m f e n g s a c d t w l h Arrived o =
    record { steps = n; motor = a; under-way = w; phase = (o, l); time = t; first = c; second = d }
served cntl0 cntl1 m f e n g s a c d t w l h (Step v k) o =
    let at : ℕ = match_at cntl0 cntl1 n m in
    let p : ℕ = period g.cntl0 g.cntl1 g.motor.rate in
    let q : ℕ = period cntl0 cntl1 (walked n m).rate in
    let same : p ≡ q = rw (c, d, a) in
    let b = period-bounds g.cntl0 g.cntl1 g.motor.rate g.motor.top s.valid.least s.valid.most (omega (arith, s.shortest)) in
    let late : since (time_of g) (later f at) ≡ e - at = rw t (between f at e l (omega arith)) in
    let arms : armed (time_of g) (later (later f at) p) ≡ Armed (later (later f at) p) = armed-late (time_of g) (later f at) p (omega (arith, late, s.shortest)) (omega (arith, s.longest)) in
    let less : suc n - 1 ≡ n = omega arith in
    record {
      steps = suc n;
      motor = rw (o, a);
      under-way = one_more n m v k w o;
      phase = rw (arms, less) (later-add f at p ∙ ap (λ x. later f (at + x)) same, omega arith, omega (arith, same, s.shortest), omega (arith, same, s.longest), l);
      time = t;
      first = c;
      second = d;
    }

-- ---- a tick

module _ (cntl0 cntl1 : ℕ) (m : Motor) (f e : ℕ) (ours : Bool) (q : ℕ → ℕ) (l : ℕ) (g : Group) (s : OnSchedule cntl0 cntl1 m f e g) where
  abbrev e' : ℕ
  e' = e + rise g.timer g.timers

  abbrev Next : Group → Type 0
  Next h = OnSchedule cntl0 cntl1 m f e' h

  abbrev at : ℕ
  at = match_at cntl0 cntl1 s.steps m

  time' : next_time g ≡ later f e'
  time' = next-time g f e s.time

  -- nothing is served: the motor stays
  stays : (p : Phase) → Stands cntl0 cntl1 m f e' s.steps p → Next (clocked_to q g p)
  stays p a = record { steps = s.steps; motor = s.motor; under-way = s.under-way; phase = a; time = time'; first = s.first; second = s.second }

  -- a match that has happened, e' counts from the first service
  matched : (c x : ℕ) → 1 ≤ s.steps → Sound (clocked_to q g (Matched c x)) → c ≡ later f at → at ≤ e' → e' ≤ at + 111 → Next (ticked_to ours q g (Matched c x))
  unfolding serve Stands
  matched c t n d h a b =
      let x : Group = clocked_to q g (Matched c t) in
      let o : decides_at s.steps (walked s.steps m) ≡ on_match x.motor = decides-match s.steps n (walked s.steps m) ∙ ap on_match (sym s.motor) in
      pick-cases (λ v. Next v) ours
      (λ z. subst (λ r. Next (outcome x r (on_match x.motor))) (sym h)
      (served cntl0 cntl1 m f e' s.steps x d s.motor s.first s.second time' s.under-way a b (on_match x.motor) o))
      (λ z. stays (Matched c t) (h, n, a, b))

  -- one that is still to come
  coming : (t : ℕ) → Stands cntl0 cntl1 m f e s.steps (Armed t) → e' < at → Next (ticked_to ours q g (Armed t))
  unfolding serve Stands
  coming t a b =
      let r : Next (clocked_to q g (Armed t)) = stays (Armed t) (a.0, a.1, b, omega (arith, a.3), omega (arith, a.4)) in
      pick-cases (λ v. Next v) ours (λ o. r) (λ o. r)

  by-phase : (p : Phase) → Stands cntl0 cntl1 m f e s.steps p → OnTime (first_period g) g.timer g.timers (g.patience l) p
      → Sound (clocked_to q g (happened (next_time g) p)) → Next (ticked_to ours q g (happened (next_time g) p))
  unfolding Stands OnTime happened armed
  by-phase Resting a u d = absurd u
  by-phase Requested a u d = absurd a
  by-phase (Armed t) a u d =
      let one : rise g.timer g.timers ≤ 1 = rise_one g.timer g.timers in
      let z : since t (next_time g) ≡ at - e' = rw (a.0, time') (between f e' at (omega (arith, a.2)) (omega (arith, a.3))) in
      pick-cases (λ p. Sound (clocked_to q g p) → Next (ticked_to ours q g p)) (due (next_time g) t)
      (λ b d.
      let there : since t (next_time g) ≡ 0 = now-reached (next_time g) t (omega (arith, z, a.3)) b in
      let now : e' ≡ at = omega (arith, z, there, a.2) in
      matched (next_time g) t a.1 d (time' ∙ ap (λ x. later f x) now) (omega arith) (omega arith))
      (λ b d. coming t a (omega (arith, still-ahead (next_time g) t b, z)))
      d
  by-phase (Matched c t) a u d =
      let z : since (time_of g) c ≡ e - at = rw (a.0, s.time) (between f at e a.2 (omega (arith, a.3))) in
      let late : since (time_of g) c ≤ 110 = omega (arith, since-le g.timer g.timers c, u.1) in
      matched c t a.1 d a.0 (omega (arith, a.2)) (omega (arith, z, late, rise_one g.timer g.timers))

  ticked : Sound g → Punctual l g → Next (tick ours q g)
  unfolding tick clocked
  ticked d u = by-phase g.phase s.phase u.service (clocked-sound q g d)

-- ---- the run

altered-schedule : (cntl0 cntl1 : ℕ) (m : Motor) (f e l : ℕ) (b : Bool) (g : Group) → OnSchedule cntl0 cntl1 m f e g → OnSchedule cntl0 cntl1 m f e (altered l b g)
unfolding altered
altered-schedule cntl0 cntl1 m f e l b g s =
    record { steps = s.steps; motor = s.motor; under-way = s.under-way; phase = s.phase; time = s.time; first = s.first; second = s.second }

altered-timely : (l j : ℕ) (b : Bool) (g : Group) → (g.phase ≡ Resting) ⊎ Punctual l g → ((altered j b g).phase ≡ Resting) ⊎ Punctual l (altered j b g)
unfolding altered
altered-timely l j b g = ⊎_elim (λ a. inl a) (λ u. inr (altered-on-time l j b g u))

goes_on : (cntl0 cntl1 : ℕ) (m : Motor) (f e l : ℕ) → l ≢ 0 → (g : Group) (acts : List Act) → OnSchedule cntl0 cntl1 m f e g → Sound g → (g.phase ≡ Resting) ⊎ Punctual l g
    → Fair g acts → Running (moments g acts) → NoTarget (moments g acts) → Keeps l (moments g acts)
    → OnSchedule cntl0 cntl1 m f (e + counts g acts) (final g acts)
unfolding counts final Fair moments Running NoTarget Keeps next event_of is_target see
goes_on cntl0 cntl1 m f e l z g [] s d u r w n k = let x : e + 0 ≡ e = omega arith in rw x s
goes_on cntl0 cntl1 m f e l z g (Ticks ours q ∷ acts) s d u r w n k =
    ⊎_elim (λ a. absurd (resting-unbound g a w.0))
    (λ v.
    let more : e + (rise g.timer g.timers + counts (tick ours q g) acts) ≡ e + rise g.timer g.timers + counts (tick ours q g) acts = omega arith in
    rw more
    (goes_on cntl0 cntl1 m f (e + rise g.timer g.timers) l z (tick ours q g) acts (ticked cntl0 cntl1 m f e ours q l g s d v) (tick-sound ours q g d w.0)
    (⊎_elim (λ a. inl a) (λ a. inr a.0) (tick-waits l ours q g d r.0 k.0 z v)) r.1 w.1 n.1 k.1))
    u
goes_on cntl0 cntl1 m f e l z g (Aims t ∷ acts) s d u r w n k = absurd (not-both refl n.0)
goes_on cntl0 cntl1 m f e l z g (Alters j b ∷ acts) s d u r w n k =
    goes_on cntl0 cntl1 m f e l z (altered j b g) acts (altered-schedule cntl0 cntl1 m f e j b g s) (altered-sound j b g d) (altered-timely l j b g u) r.1 w.1 n.1 k.1

-- the first service, in the tick with q
same-time : (g : Group) (reference : ℕ) (o : Outcome) → time_of (outcome g reference o) ≡ time_of g
unfolding outcome
same-time g reference Arrived = refl
same-time g reference (Step w k) = refl

no-count : (g : Group) → later (next_time g) 0 ≡ next_time g
no-count g =
    let k : ℕ = rise g.timer g.timers in
    let e : k + 0 ≡ k = omega arith in
    rw (rises g.timer g.timers, later-add (time_of g) k 0, e)

request-served : (q : ℕ → ℕ) (g : Group) → Sound (clocked_to q g Requested) → OnSchedule g.cntl0 g.cntl1 g.motor (next_time g) 0 (serve Requested (clocked_to q g Requested))
unfolding serve decides_at walked match_at
request-served q g d =
    let x : Group = clocked_to q g Requested in
    subst (λ r. OnSchedule g.cntl0 g.cntl1 g.motor (next_time g) 0 (outcome x r (on_request g.motor))) (no-count g)
    (served g.cntl0 g.cntl1 g.motor (next_time g) 0 0 x d refl refl refl (sym (no-count g)) (λ k h e. omega arith) (omega arith) (omega arith) (on_request g.motor) refl)

first-served : (q : ℕ → ℕ) (g : Group) → SetGoing g → OnSchedule g.cntl0 g.cntl1 g.motor (time_of (tick true q g)) 0 (tick true q g)
unfolding tick clocked happened serve
first-served q g a = by g.phase a.phase (clocked-sound q g a.sound)
  where
    by : (p : Phase) → p ≡ Requested → Sound (clocked_to q g (happened (next_time g) p))
        → OnSchedule g.cntl0 g.cntl1 g.motor (time_of (serve (happened (next_time g) p) (clocked_to q g (happened (next_time g) p)))) 0 (serve (happened (next_time g) p) (clocked_to q g (happened (next_time g) p)))
    by Resting e d = absurd (let z : ◌≡◌ {A = ℕ} 0 1 = cc in omega arith)
    by Requested e d =
        subst (λ f. OnSchedule g.cntl0 g.cntl1 g.motor f 0 (serve Requested (clocked_to q g Requested))) (sym (same-time (clocked_to q g Requested) _ _)) (request-served q g d)
    by (Armed t) e d = absurd (let z : ◌≡◌ {A = ℕ} 0 1 = cc in omega arith)
    by (Matched t m) e d = absurd (let z : ◌≡◌ {A = ℕ} 0 1 = cc in omega arith)

requested-bound : (p : Phase) → p ≡ Requested → bound p ≡ true
unfolding bound
requested-bound p e = rw e

on-schedule : (g : Group) (q : ℕ → ℕ) (acts : List Act) (l : ℕ)
    → SetGoing g → Prompt true q g → g.level ≡ l → l ≢ 0
    → Fair (tick true q g) acts → Running (moments (tick true q g) acts) → NoTarget (moments (tick true q g) acts) → Keeps l (moments (tick true q g) acts)
    → OnSchedule g.cntl0 g.cntl1 g.motor (time_of (tick true q g)) (counts (tick true q g) acts) (final (tick true q g) acts)
on-schedule g q acts l a p e z r w n k =
    let h : Group = tick true q g in
    let none : 0 + counts h acts ≡ counts h acts = omega arith in
    rw none at (goes_on g.cntl0 g.cntl1 g.motor (time_of h) 0 l z h acts (first-served q g a) (tick-sound true q g a.sound (requested-bound g.phase a.phase))
    (⊎_elim (λ x. inl x) (λ x. inr x.0) (tick-waits l true q g a.sound p e z (requested-on-time l g a))) r w n k)

-- ---- one schedule, two groups

module _ (cntl0 cntl1 : ℕ) (m : Motor) (v : Valid m) (slow : m.rate ≡ 1) (short : 128 ≤ period cntl0 cntl1 m.top) where
  record Fine (x : Motor) : Type 0 where
    valid : Valid x
    top : x.top ≡ m.top

  fine-on : (x : Motor) (o : Outcome) → Fine x → Serves x o → Fine (went_on o x)
  unfolding went_on Serves
  fine-on x Arrived f d = f
  fine-on x (Step w k) f d = record { valid = d.valid; top = d.top ∙ f.top }

  fine : (n : ℕ) → Fine (walked n m)
  unfolding walked decides_at
  fine zero = record { valid = v; top = refl }
  fine (suc zero) = fine-on m (on_request m) record { valid = v; top = refl } (one-step.on-request m v slow)
  fine (suc (suc n)) = fine-on (walked (suc n) m) (on_match (walked (suc n) m)) (fine (suc n)) (one-step.on-match (walked (suc n) m) (fine (suc n)).valid)

  -- each match comes at least 128 counts after the one before it
  apart : (n : ℕ) → match_at cntl0 cntl1 n m + 128 ≤ match_at cntl0 cntl1 (suc n) m
  unfolding match_at
  apart n =
      let x : Motor = walked n m in
      let f : Fine x = fine n in
      let s : 128 ≤ period cntl0 cntl1 x.top = rw f.top short in
      omega (arith, s, period-bounds cntl0 cntl1 x.rate x.top f.valid.least f.valid.most (omega arith))

  in_order : (a d : ℕ) → match_at cntl0 cntl1 a m ≤ match_at cntl0 cntl1 (a + d) m
  in_order a zero = let e : a + 0 ≡ a = omega arith in rw e (omega arith)
  in_order a (suc d) = let e : a + suc d ≡ suc (a + d) = omega arith in rw e (omega (arith, in_order a d, apart (a + d)))

  -- a matches have acted e counts from the first service: not one more, or the motor has arrived
  record Acted (e a : ℕ) : Type 0 where
    reached : match_at cntl0 cntl1 a m ≤ e
    last : (e < match_at cntl0 cntl1 (suc a) m) ⊎ (decides_at a (walked a m) ≡ Arrived)
    under-way : (k : ℕ) → k < a → decides_at k (walked k m) ≡ Arrived → ⊥

  no_more : (e a b : ℕ) → Acted e a → Acted e b → b ≤ a
  no_more e a b s t = by (ltb a b) refl
    where
      by : (c : Bool) → ltb a b ≡ c → b ≤ a
      by true c =
          let l : a < b = ltb-true a b c in
          let n : suc a + (b - suc a) ≡ b = omega arith in
          let o : match_at cntl0 cntl1 (suc a) m ≤ match_at cntl0 cntl1 b m = subst (λ x. match_at cntl0 cntl1 (suc a) m ≤ match_at cntl0 cntl1 x m) n (in_order (suc a) (b - suc a)) in
          ⊎_elim (λ z. absurd (omega (arith, t.reached))) (λ z. absurd (t.under-way a l z)) s.last
      by false c = ltb-false a b c

  have-acted : (f e : ℕ) (g : Group) (s : OnSchedule cntl0 cntl1 m f e g) → Acted e (acted s.steps g.phase)
  unfolding Stands acted
  have-acted f e g s = by g.phase s.phase
    where
      n : ℕ
      n = s.steps

      by : (p : Phase) → Stands cntl0 cntl1 m f e n p → Acted e (acted n p)
      by Resting a = record { reached = a.1; last = inr a.0; under-way = s.under-way }
      by Requested a = absurd a
      by (Armed t) a =
          let e₁ : suc (n - 1) ≡ n = omega (arith, a.1) in
          record { reached = a.4; last = inl (rw e₁ a.2); under-way = λ k h. s.under-way k (omega arith) }
      by (Matched c t) a = record { reached = a.2; last = inl (omega (arith, a.3, apart n)); under-way = s.under-way }

  as_many : (f f' e : ℕ) (g h : Group) (s : OnSchedule cntl0 cntl1 m f e g) (t : OnSchedule cntl0 cntl1 m f' e h) → acted s.steps g.phase ≡ acted t.steps h.phase
  as_many f f' e g h s t =
      let a : Acted e (acted s.steps g.phase) = have-acted f e g s in
      let b : Acted e (acted t.steps h.phase) = have-acted f' e h t in
      omega (arith, no_more e _ _ a b, no_more e _ _ b a)

  as-far : (f f' e : ℕ) (g h : Group) (s : OnSchedule cntl0 cntl1 m f e g) (t : OnSchedule cntl0 cntl1 m f' e h)
      → pending g.phase ≡ false → pending h.phase ≡ false → s.steps ≡ t.steps
  unfolding Stands acted pending
  as-far f f' e g h s t = by g.phase h.phase s.phase t.phase (as_many f f' e g h s t)
    where
      by : (p r : Phase) → Stands cntl0 cntl1 m f e s.steps p → Stands cntl0 cntl1 m f' e t.steps r → acted s.steps p ≡ acted t.steps r
          → pending p ≡ false → pending r ≡ false → s.steps ≡ t.steps
      by Resting Resting a b k x y = k
      by Resting Requested a b k x y = absurd b
      by Resting (Armed u) a b k x y = absurd (t.under-way s.steps (omega (arith, b.1)) a.0)
      by Resting (Matched u v) a b k x y = absurd (not-both refl y)
      by Requested r a b k x y = absurd a
      by (Armed c) Resting a b k x y = absurd (s.under-way t.steps (omega (arith, a.1)) b.0)
      by (Armed c) Requested a b k x y = absurd b
      by (Armed c) (Armed u) a b k x y = omega (arith, a.1, b.1)
      by (Armed c) (Matched u v) a b k x y = absurd (not-both refl y)
      by (Matched c v) r a b k x y = absurd (not-both refl x)

pub schedules : Schedules
schedules =
    record {
      on-schedule = on-schedule;
      same = λ cntl0 cntl1 m f f' e g h v slow short s t. (
        as_many cntl0 cntl1 m v slow short f f' e g h s t,
        λ x y. s.motor ∙ ap (λ n. walked n m) (as-far cntl0 cntl1 m v slow short f f' e g h s t x y) ∙ sym t.motor,
      );
    }
