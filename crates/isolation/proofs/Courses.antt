-- A move from its request on, in one run: it is on its schedule, and its pins are drawn: `scheduled`, `drawn`.
use Prim.Native.Nat.{ℕ, ◌+◌, ◌<◌}
use native.Mathlib.Omega.{arith}
use mathlib.Core.Bool.{Bool, true, false, ◌&&◌}
use mathlib.Core.List.{List, [], ◌∷◌, ◌++◌}
use mathlib.Core.Path.{◌≡◌, refl, ap, sym, subst, ◌∙◌}
use mathlib.Core.Logic.{◌≢◌}
use Rattle.words.specs.Choice.{pick}
use Rattle.words.proofs.ChoiceLaws.{pick-cases, not-both}
use Rattle.slots.specs.Claims.{goes_to}
use Rattle.motor.specs.declared.Phase.TheVariants.{Requested}
use Rattle.motor.specs.Group.{Group, time_of, bound, happened, altered, Prompt}
use Rattle.motor.specs.Group as group
use Rattle.motor.specs.Count.{Event, Tick, Target, Other, is_target, Running, Keeps, NoTarget}
use Rattle.motor.specs.GroupCount.{Act as GroupAct, Ticks as ticks, Aims, Alters, next, final, Fair}
use Rattle.motor.specs.GroupCount as group-count
use Rattle.motor.specs.Schedule.{rise, counts, OnSchedule}
use Rattle.motor.proofs.Schedule.{schedules}
use Rattle.unit.specs.declared.State.{State}
use Rattle.unit.specs.TheUnit.{reset_state, cpr_of, priority, channel, pin_control, position, mod_count, last, stepping, is_bound}
use Rattle.unit.specs.OneTick.{service_in, tick}
use Rattle.unit.specs.Gate.{place}
use Rattle.unit.specs.Calls.{write_of, is_taken}
use Rattle.history.specs.Moments.{Act, Ticks, Writes, Nothing, does, through, Typed, priority_of, see, is_target_of, event_of, moments}
use Rattle.history.specs.Always.{GroupShown}
use Rattle.history.proofs.Look.{look}
use Rattle.history.proofs.Own.{View, view_in, view, group_in}
use Rattle.history.proofs.Ticks.{patience_in, ours, slots_after, view_ticked, view-tick}
use Rattle.history.proofs.Held.{Held}
use Rattle.history.proofs.Calls.{Words, words-acts, words-first, words-second}
use Rattle.history.proofs.Chain.{Ahead, ahead, bound-stepping, seen, Acts, tick-held, slot-prompt, running-held}
use Rattle.history.proofs.Chain as chain
use Rattle.history.proofs.Begin.{Begun, begin, set-going}
use Rattle.history.proofs.Shown.{Every}
use Rattle.history.proofs.Every.{Good, good-write}
use Rattle.history.proofs.Always.{state-good}
use Rattle.isolation.specs.Row.{Row, in_row}
use Rattle.isolation.specs.OneMove.{Untouched, Unserved, counts_of, Course, at_request, at_start, at_service, at_first, at_now, from_request, CourseOf}
use Rattle.isolation.proofs.Drawn.{is_armed, Drawn, drawn-tick, drawn-through}

-- ---- counts of the timer

unfoldable rise_of : Event → Group → ℕ
rise_of Tick g = rise g.timer g.timers
rise_of Target g = 0
rise_of Other g = 0

counts-cons : (x : GroupAct) (xs : List GroupAct) (g : Group) → counts g (x ∷ xs) ≡ rise_of (group-count.event_of x) g + counts (next x g) xs
unfolding counts rise_of group-count.event_of next
counts-cons (ticks o q) xs g = refl
counts-cons (Aims t) xs g = omega arith
counts-cons (Alters l b) xs g = omega arith

no-rise : (b : Bool) (n : ℕ) (g : Group) → n ≡ rise_of (pick b Target Other) g + n
unfolding rise_of
no-rise true n g = omega arith
no-rise false n g = omega arith

counts-of-cons : (c : ℕ) (x : Act) (xs : List Act) (s : State) → counts_of c s (x ∷ xs) ≡ rise_of (event_of c x s) (view s c).group + counts_of c (does x s) xs
unfolding counts_of rise_of event_of does view view_in group_in look
counts-of-cons c Ticks xs s = refl
counts-of-cons c (Writes a v) xs s = no-rise (is_target_of c (place a) && is_taken (write_of s a v).answer) (counts_of c (does (Writes a v) s) xs) (view s c).group
counts-of-cons c Nothing xs s = omega arith

-- ---- the group of a run, with its counts

record Followed (c : ℕ) (s : State) (xs : List Act) : Type 0 where
  does : List GroupAct
  same : moments c s xs ≡ group-count.moments (view s c).group does
  fair : Fair (view s c).group does
  end : (view (through s xs) c).group ≡ final (view s c).group does
  counted : counts (view s c).group does ≡ counts_of c s xs

follow-cons : (c : ℕ) (x : Act) (xs : List Act) (s : State) → Ahead c s → Acts c s (does x s) (event_of c x s) → Followed c (does x s) xs → Followed c s (x ∷ xs)
unfolding moments through group-count.moments final
follow-cons c x xs s a y z =
    let g : Group = (view s c).group in
    let p : see c s ≡ group-count.see g = seen c s a in
    let q : see c (does x s) ≡ group-count.see (next y.act g) = seen c (does x s) y.ahead ∙ ap group-count.see y.group in
    let r : moments c (does x s) xs ≡ group-count.moments (next y.act g) z.does = z.same ∙ ap (λ k. group-count.moments k z.does) y.group in
    record {
      does = y.act ∷ z.does;
      same = λ i. record { was = p i; event = y.event i; is = q i } ∷ r i;
      fair = y.fair z.does (subst (λ k. Fair k z.does) y.group z.fair);
      end = z.end ∙ ap (λ k. final k z.does) y.group;
      counted = counts-cons y.act z.does g
          ∙ (λ i. rise_of (sym y.event i) g + counts (sym y.group i) z.does)
          ∙ ap (λ k. rise_of (event_of c x s) g + k) z.counted
          ∙ sym (counts-of-cons c x xs s);
    }

follow : (c : ℕ) (xs : List Act) (s : State) → Ahead c s → Running (moments c s xs) → Followed c s xs
unfolding moments through group-count.moments final Fair Running counts counts_of
follow c [] s a r = record { does = []; same = refl; fair = tt; end = refl; counted = refl }
follow c (x ∷ xs) s a r =
    let y : Acts c s (does x s) (event_of c x s) = chain.acts c x s (running-held c s a r.0) in
    follow-cons c x xs s a y (follow c xs (does x s) y.ahead r.1)

-- ---- what is asked of a list, of its parts

untouched-second : (r : Row) (xs ys : List Act) (s : State) → Untouched r s (xs ++ ys) → Untouched r (through s xs) ys
unfolding Untouched through
untouched-second r [] ys s u = u
untouched-second r (x ∷ xs) ys s u = untouched-second r xs ys (does x s) u.1

pub untouched-first : (r : Row) (xs ys : List Act) (s : State) → Untouched r s (xs ++ ys) → Untouched r s xs
unfolding Untouched
untouched-first r [] ys s u = tt
untouched-first r (x ∷ xs) ys s u = (u.0, untouched-first r xs ys (does x s) u.1)

keeps-second : (l c : ℕ) (xs ys : List Act) (s : State) → Keeps l (moments c s (xs ++ ys)) → Keeps l (moments c (through s xs) ys)
unfolding Keeps moments through
keeps-second l c [] ys s k = k
keeps-second l c (x ∷ xs) ys s k = keeps-second l c xs ys (does x s) k.1

not-target : (e : Event) → e ≢ Target → is_target e ≡ false
unfolding is_target
not-target Tick n = refl
not-target Target n = absurd (n refl)
not-target Other n = refl

no_target : (r : Row) (c : ℕ) (xs : List Act) (s : State) → in_row r c ≡ true → Running (moments c s xs) → Untouched r s xs → NoTarget (moments c s xs)
unfolding Running moments Untouched NoTarget see
no_target r c [] s i k u = tt
no_target r c (x ∷ xs) s i k u = (not-target (event_of c x s) (u.0 c i k.0), no_target r c xs (does x s) i k.1 u.1)

-- ---- until the first service

-- nothing of it has changed
record SameGroup (g k : Group) : Type 0 where
  motor : k.motor ≡ g.motor
  phase : k.phase ≡ g.phase
  cntl0 : k.cntl0 ≡ g.cntl0
  cntl1 : k.cntl1 ≡ g.cntl1

same-trans : (g h k : Group) → SameGroup g h → SameGroup h k → SameGroup g k
same-trans g h k a b = record { motor = b.motor ∙ a.motor; phase = b.phase ∙ a.phase; cntl0 = b.cntl0 ∙ a.cntl0; cntl1 = b.cntl1 ∙ a.cntl1 }

unfoldable is_tick : Event → Bool
is_tick Tick = true
is_tick Target = false
is_tick Other = false

next-other : (x : GroupAct) (g : Group) → is_tick (group-count.event_of x) ≡ false → group-count.event_of x ≢ Target → SameGroup g (next x g)
unfolding next group-count.event_of is_tick altered
next-other (ticks o q) g e n = absurd (not-both refl e)
next-other (Aims t) g e n = absurd (n refl)
next-other (Alters l b) g e n = record { motor = refl; phase = refl; cntl0 = refl; cntl1 = refl }

record Waits (c : ℕ) (s t : State) : Type 0 where
  begun : Begun c t
  same : SameGroup (view s c).group (view t c).group

waits-trans : (c : ℕ) (s t u : State) → Waits c s t → Waits c t u → Waits c s u
waits-trans c s t u a b = record { begun = b.begun; same = same-trans _ _ _ a.same b.same }

passed_over : (q : ℕ → ℕ) (g : Group) → g.phase ≡ Requested → SameGroup g (group.tick false q g)
unfolding group.tick group.clocked happened
passed_over q g e = record { motor = refl; phase = rw e refl; cntl0 = refl; cntl1 = refl }

waits-tick : (c : ℕ) (s : State) → Begun c s → goes_to c (service_in s) ≡ false → Waits c s (tick s)
unfolding ours view_ticked view view_in group_in look stepping bound
waits-tick c s b o =
    let q : ℕ → ℕ = patience_in (slots_after s) c in
    let h : Held c s = b.held in
    let e : (view (tick s) c).group ≡ group.tick false q (view s c).group = ap (λ (v : View). v.group) (view-tick c s h.sized h.alone.going h.seen) ∙ ap (λ x. group.tick x q (view s c).group) o in
    let k : SameGroup (view s c).group (view (tick s) c).group = subst (SameGroup (view s c).group) (sym e) (passed_over q (view s c).group b.phase) in
    let p : (channel (tick s) c).phase ≡ Requested = k.phase ∙ b.phase in
    record { begun = record { held = tick-held c s h (ap bound p); phase = p }; same = k }

waits-write : (c a v : ℕ) (s : State) → Begun c s → event_of c (Writes a v) s ≢ Target → Waits c s (does (Writes a v) s)
unfolding event_of is_tick view view_in group_in look stepping bound
waits-write c a v s b n =
    let y : Acts c s (does (Writes a v) s) (event_of c (Writes a v) s) = chain.acts c (Writes a v) s b.held in
    let o : is_tick (group-count.event_of y.act) ≡ false = sym (ap is_tick y.event) ∙ pick-cases (λ e. is_tick e ≡ false) (is_target_of c (place a) && is_taken (write_of s a v).answer) (λ b. refl) (λ b. refl) in
    let k : SameGroup (view s c).group (view (does (Writes a v) s) c).group = subst (SameGroup (view s c).group) (sym y.group) (next-other y.act (view s c).group o (λ e. n (y.event ∙ e))) in
    let p : (channel (does (Writes a v) s) c).phase ≡ Requested = k.phase ∙ b.phase in
    record { begun = record { held = y.ahead.held (ap bound p); phase = p }; same = k }

bound-begun : (c : ℕ) (s : State) → Begun c s → is_bound s c ≡ true
bound-begun c s b = bound-stepping c s b.held.alone ∙ b.held.up

waited : (r : Row) (c : ℕ) (xs : List Act) (s : State) → in_row r c ≡ true → Begun c s → Unserved c s xs → Untouched r s xs → Running (moments c s xs) × Waits c s (through s xs)
unfolding Unserved Untouched moments Running through does see
waited r c [] s i b o u = (tt, record { begun = b; same = record { motor = refl; phase = refl; cntl0 = refl; cntl1 = refl } })
waited r c (Ticks ∷ xs) s i b o u =
    let w : Waits c s (tick s) = waits-tick c s b o.0 in
    let z : Running (moments c (tick s) xs) × Waits c (tick s) (through (tick s) xs) = waited r c xs (tick s) i w.begun o.1 u.1 in
    ((bound-begun c s b, z.0), waits-trans c s (tick s) _ w z.1)
waited r c (Writes a v ∷ xs) s i b o u =
    let w : Waits c s (does (Writes a v) s) = waits-write c a v s b (u.0 c i (bound-begun c s b)) in
    let z : Running (moments c (does (Writes a v) s) xs) × Waits c (does (Writes a v) s) (through (does (Writes a v) s) xs) = waited r c xs (does (Writes a v) s) i w.begun o u.1 in
    ((bound-begun c s b, z.0), waits-trans c s (does (Writes a v) s) _ w z.1)
waited r c (Nothing ∷ xs) s i b o u =
    let z : Running (moments c s xs) × Waits c s (through s xs) = waited r c xs s i b o u.1 in
    ((bound-begun c s b, z.0), z.1)

-- ---- a course

module _ (r : Row) (c : ℕ) (i : in_row r c ≡ true) (k : Course) (x : CourseOf Typed r c k) where
  abbrev request : Act
  request = Writes k.a k.v

  words : Words (k.before ++ (request ∷ (k.waits ++ (Ticks ∷ (k.since ++ k.rest)))))
  words = subst Words x.whole (words-acts k.calls x.listed)

  words-later : Words (request ∷ (k.waits ++ (Ticks ∷ (k.since ++ k.rest))))
  words-later = words-second k.before _ words

  words-waits : Words k.waits
  words-waits = words-first k.waits (Ticks ∷ (k.since ++ k.rest)) (words-second (request ∷ []) (k.waits ++ (Ticks ∷ (k.since ++ k.rest))) words-later)

  words-since : Words k.since
  words-since =
      words-first k.since k.rest
      (words-second (Ticks ∷ []) (k.since ++ k.rest) (words-second k.waits (Ticks ∷ (k.since ++ k.rest)) (words-second (request ∷ []) (k.waits ++ (Ticks ∷ (k.since ++ k.rest))) words-later)))

  pub good-before : Good (at_request k)
  good-before = state-good k.calls (at_request k) record { listed = x.listed; before = k.before; rest = _; cut = x.whole; reached = refl }

  pub good_start : Good (at_start k)
  unfolding does Words
  good_start = good-write k.a k.v (at_request k) words-later.0 good-before

  pub begun : Begun c (at_start k)
  begun = begin c k.a k.v (at_request k) good-before.0 x.starts

  untouched-later : Untouched r (at_start k) (from_request k)
  unfolding Untouched through
  untouched-later = (untouched-second r k.before (request ∷ from_request k) reset_state x.untouched).1

  wait : Running (moments c (at_start k) k.waits) × Waits c (at_start k) (at_service k)
  wait = waited r c k.waits (at_start k) i begun x.unserved (untouched-first r k.waits _ (at_start k) untouched-later)

  held : Held c (at_service k)
  held = wait.1.begun.held

  untouched-since : Untouched r (at_first k) k.since
  unfolding Untouched does
  untouched-since = (untouched-second r k.waits (Ticks ∷ k.since) (at_start k) untouched-later).1

  keeps-now : Keeps x.level (moments c (at_service k) (Ticks ∷ k.since))
  keeps-now = keeps-second x.level c k.waits (Ticks ∷ k.since) (at_start k) x.kept

  abbrev g0 : Group
  g0 = (view (at_service k) c).group

  abbrev q0 : ℕ → ℕ
  q0 = patience_in (slots_after (at_service k)) c

  own : ours c (at_service k) ≡ true
  unfolding ours
  own = x.served

  first-is : (view (at_first k) c).group ≡ group.tick true q0 g0
  unfolding view_ticked
  first-is = ap (λ (v : View). v.group) (view-tick c (at_service k) held.sized held.alone.going held.seen) ∙ ap (λ o. group.tick o q0 g0) own

  ahead-first : Ahead c (at_first k)
  unfolding does
  ahead-first = (chain.acts c Ticks (at_service k) held).ahead

  -- it is on the schedule of the motor that the request found
  pub scheduled : OnSchedule (view (at_start k) c).group.cntl0 (view (at_start k) c).group.cntl1 (view (at_start k) c).group.motor (time_of (view (at_first k) c).group) (counts_of c (at_first k) k.since) (view (at_now k) c).group
  unfolding Keeps moments does see priority_of priority cpr_of view view_in group_in look
  scheduled =
      let z : Followed c (at_first k) k.since = follow c k.since (at_first k) ahead-first x.running in
      let h : Group = group.tick true q0 g0 in
      let e : (view (at_first k) c).group ≡ h = first-is in
      let same : moments c (at_first k) k.since ≡ group-count.moments h z.does = z.same ∙ ap (λ y. group-count.moments y z.does) e in
      let o : OnSchedule g0.cntl0 g0.cntl1 g0.motor (time_of h) (counts h z.does) (final h z.does) =
      schedules.on-schedule g0 q0 z.does x.level (set-going c (at_service k) wait.1.begun) (subst (λ b. Prompt b q0 g0) own (slot-prompt c (at_service k) held)) keeps-now.0 x.enabled
      (subst (λ y. Fair y z.does) e z.fair) (subst Running same x.running) (subst NoTarget same (no_target r c k.since (at_first k) i x.running untouched-since)) (subst (Keeps x.level) same keeps-now.1) in
      let w : SameGroup (view (at_start k) c).group g0 = wait.1.same in
      subst {A = Type 0} (λ A. A)
      (λ n. OnSchedule (w.cntl0 n) (w.cntl1 n) (w.motor n) (time_of (sym e n)) ((ap (λ y. counts y z.does) (sym e) ∙ z.counted) n)
      ((ap (λ y. final y z.does) (sym e) ∙ sym z.end) n)) o

  -- and its pins are drawn from the patterns that the request found
  pub drawn : Drawn c (position (at_start k) c) (mod_count (at_start k) c) (last (at_start k) c) (λ j. pin_control (at_start k) j) (at_now k)
  unfolding Every is_armed
  drawn =
      let s : State = at_start k in
      let b : Begun c s = begun in
      let small : c < 16 = omega (arith, b.held.seen.within) in
      let shown : GroupShown c s = (good_start.1 c small b.held.up).1 in
      let d : Drawn c (position s c) (mod_count s c) (last s c) (λ j. pin_control s j) s =
      record {
        good = good_start;
        ahead = ahead c s b.held;
        small = small;
        span = refl;
        pattern = λ j a l. (shown.channels j a l).pattern;
        seen = λ j a l. good_start.2.seen c j small b.held.up a l;
        same = λ j a l. refl;
        count = refl;
        before = λ j a l e. absurd (not-both e (ap is_armed b.phase));
      } in
      drawn-through c _ _ _ _ k.since (at_first k) words-since x.running
      (drawn-tick c _ _ _ _ (at_service k) held (drawn-through c _ _ _ _ k.waits s words-waits wait.0 d))
