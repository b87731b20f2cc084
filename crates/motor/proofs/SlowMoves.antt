-- Request #103 of whole moves, proved for one group: `slow-moves`. What is kept from the request on: all the places to the target lie
-- ahead, and the rate is at most their number.
use Prim.Native.Nat.{ℕ, zero, suc, ◌+◌, ◌-◌, ◌%◌, ◌≤◌, ◌<◌, max}
use native.Mathlib.Omega.{arith}
use mathlib.Core.Bool.{Bool, true, false}
use mathlib.Core.Path.{◌≡◌, refl, ap, sym, subst, ◌∙◌}
use mathlib.Core.Logic.{◌≢◌, ◌⊎◌, inl, inr, ⊎_elim}
use mathlib.Core.List.{List, [], ◌∷◌, ◌++◌}
use mathlib.Core.Option.{Option, none, some}
use lib.Dec.{ltb, leb, eqb}
use borrow.Author.Tests.{eq-eqb, ne_eqb, le-ltb, eqb-false}
use Rattle.std.specs.Prelude.{Option as Chosen, Some, None}
use Rattle.words.specs.Choice.{pick}
use Rattle.words.specs.Clock.{due}
use Rattle.words.proofs.ChoiceLaws.{pick-cases, not-both, tests}
use Rattle.motor.specs.declared.Way.{Way}
use Rattle.motor.specs.declared.Way.TheVariants.{Right, Left}
use Rattle.motor.specs.declared.Motor.{Motor}
use Rattle.motor.specs.declared.Phase.{Phase}
use Rattle.motor.specs.declared.Phase.TheVariants.{Resting, Requested, Armed, Matched}
use Rattle.motor.specs.declared.Outcome.{Outcome}
use Rattle.motor.specs.declared.Outcome.TheVariants.{Arrived, Step}
use Rattle.motor.specs.Stepping.{ahead, accelerates, choice, steps, test, turn, on_request, on_match, beside, moved}
use Rattle.motor.specs.Track.{distance, Valid}
use Rattle.motor.specs.Group.{Group, time_of, next_time, bound, armed, happened, outcome, serve, clocked, tick, altered, Sound, SlowAtFirst}
use Rattle.motor.specs.Count.{Tick, Move, moves_of, moves_in, latest, after, Running, is_target, NoTarget, Standing}
use Rattle.motor.specs.GroupCount.{Act, Ticks, Aims, Alters, next, event_of, see, moments, final, Fair, SetGoing}
use Rattle.motor.specs.SlowMoves.{AllSlow, LastSlow, Pace, Paced, SlowMoves}
use Rattle.motor.proofs.ServiceLaws.{slow-ends}
use Rattle.motor.proofs.OneTick.{one-tick}
use Rattle.motor.proofs.Counts.{ticked-sound, altered-sound, after-moments, counted}

-- ---- one decision

-- with way to go a turn makes a step, and it keeps the pace
pub choice-pace : (d top k j : ℕ) → 1 ≤ k → choice d top k ≡ Some j → Pace top d k j
unfolding choice accelerates
choice-pace d top k j l =
    pick-cases P (accelerates d top)
    (λ a. pick-cases P (ltb k top)
    (λ b. is (k + 1) (λ x y. omega arith) (λ x y. absurd (omega (arith, tests))) (λ x. absurd (omega (arith, tests))))
    (λ b. is k (λ x y. absurd (omega (arith, tests))) (λ x y. y) (λ x. absurd (omega (arith, tests)))))
    (λ a. pick-cases P (leb k 1)
    (λ b. pick-cases P (ltb 0 d) (λ t. is k (λ x y. absurd (omega (arith, tests))) (λ x y. absurd (omega (arith, tests))) (λ x. omega (arith, tests))) (λ t e. absurd (back e)))
    (λ b. is (k - 1) (λ x y. absurd (omega (arith, tests))) (λ x y. absurd (omega (arith, tests))) (λ x. omega (arith, tests))))
  where
    P : Chosen ℕ → Type 0
    P c = c ≡ Some j → Pace top d k j

    back : None ≡ Some j → ⊥
    back e = let z : ◌≡◌ {A = ℕ} 0 1 = cc in omega arith

    is : (i : ℕ) → (top < d → k < top → i ≡ suc k) → (top < d → k ≡ top → i ≡ top) → (d ≤ top → i ≡ max 1 (k - 1)) → P (Some i)
    is i a b c e = let q : i ≡ j = cc in record { rises = λ x y. sym q ∙ a x y; stays = λ x y. sym q ∙ b x y; falls = λ x. sym q ∙ c x }

never_back : (d top k : ℕ) → 0 < d → choice d top k ≡ None → ⊥
unfolding choice
never_back d top k h =
    pick-cases P (accelerates d top) (λ a. pick-cases P (ltb k top) (λ b. on) (λ b. on))
    (λ a. pick-cases P (leb k 1) (λ b. pick-cases P (ltb 0 d) (λ t. on) (λ t. absurd (omega (arith, tests)))) (λ b. on))
  where
    P : Chosen ℕ → Type 0
    P c = c ≡ None → ⊥

    on : {i : ℕ} → P (Some i)
    on e = let z : ◌≡◌ {A = ℕ} 0 1 = cc in omega arith

-- all the places to the target lie ahead, and the rate is at most their number
record OnCourse (m : Motor) : Type 0 where
  towards : distance m.position m.target ≡ ahead m.way m
  slow : m.rate ≤ max 1 (distance m.position m.target)

-- a step from the motor m to the motor n
record Stride (m n : Motor) : Type 0 where
  nearer : suc (distance n.position n.target) ≡ distance m.position m.target
  moves : m.position ≢ n.position
  top : n.top ≡ m.top
  pace : Pace m.top (distance m.position m.target) m.rate n.rate
  course : OnCourse n
  fast : m.rate ≤ max 1 (distance m.position m.target)
  least : 1 ≤ m.rate

unfoldable Heads : Motor → Outcome → Type 0
Heads m Arrived = Unit {0}
Heads m (Step w k) = Stride m (moved w k m)

record Closer (w : Way) (k : ℕ) (m : Motor) : Type 0 where
  nearer : suc (distance (beside w m.position) m.target) ≡ distance m.position m.target
  moves : m.position ≢ beside w m.position
  towards : distance (beside w m.position) m.target ≡ ahead w (moved w k m)

closer : (w : Way) (k : ℕ) (m : Motor) → Valid m → distance m.position m.target ≡ ahead w m → 0 < ahead w m → Closer w k m
unfolding distance ahead beside moved
closer Right k m v e h =
    let q : (m.position + 1) % 65536 ≡ m.position + 1 = omega (arith, v.there) in
    record { nearer = rw q (omega arith); moves = λ x. omega (arith, q, x); towards = rw q (omega arith) }
closer Left k m v e h =
    let q : (m.position + 65535) % 65536 ≡ m.position - 1 = omega (arith, v.here) in
    record { nearer = rw q (omega arith); moves = λ x. omega (arith, q, x); towards = rw q (omega arith) }

heads-turn : (w : Way) (m : Motor) (back : Outcome) → Valid m → distance m.position m.target ≡ ahead w m → m.rate ≤ max 1 (distance m.position m.target) → 0 < ahead w m
    → Heads m (steps w (choice (ahead w m) m.top m.rate) back)
unfolding Heads moved
heads-turn w m back v e l h = by (choice (ahead w m) m.top m.rate) refl
  where
    by : (c : Chosen ℕ) → choice (ahead w m) m.top m.rate ≡ c → Heads m (steps w c back)
    by None q = absurd (never_back (ahead w m) m.top m.rate h q)
    by (Some k) q =
        let x : Closer w k m = closer w k m v e h in
        let y : suc (ahead w m - 1) ≡ ahead w m = omega arith in
        let z : k ≤ max 1 (ahead w m - 1) = slow-ends.last (ahead w m - 1) m.top m.rate k v.most (omega (arith, v.least)) (ap (λ n. choice n m.top m.rate) y ∙ q) in
        record {
          nearer = x.nearer;
          moves = x.moves;
          top = refl;
          pace = subst (λ n. Pace m.top n m.rate k) (sym e) (choice-pace (ahead w m) m.top m.rate k v.least q);
          course = record { towards = x.towards; slow = omega (arith, x.nearer) };
          fast = l;
          least = v.least;
        }

heads-request : (m : Motor) → Valid m → m.rate ≡ 1 → Heads m (on_request m)
unfolding on_request test turn ahead distance Heads
heads-request m v e =
    pick-cases (Heads m) (eqb m.target m.position) (λ a. tt)
    (λ a. let q : m.target ≢ m.position = eqb-false m.target m.position a in pick-cases (Heads m) (ltb m.position m.target)
    (λ b. heads-turn Right m Arrived v (omega (arith, tests)) (omega arith) (omega (arith, tests)))
    (λ b. heads-turn Left m Arrived v (omega (arith, tests)) (omega arith) (omega (arith, tests))))

-- at the target, at rate 1: the turn goes back to the test, and that ends the run
heads-there : (m : Motor) → m.rate ≡ 1 → distance m.position m.target ≡ 0 → ahead m.way m ≡ 0 → Heads m (steps m.way (choice (ahead m.way m) m.top m.rate) (test 2 m))
unfolding choice accelerates test distance Heads
heads-there m r d e = rw (e, r, le-ltb m.top 0 (omega arith), eq-eqb m.target m.position (omega arith)) tt

heads-match : (m : Motor) → Valid m → OnCourse m → Heads m (on_match m)
unfolding on_match turn
heads-match m v o = by (ahead m.way m) refl
  where
    by : (d : ℕ) → ahead m.way m ≡ d → Heads m (steps m.way (choice (ahead m.way m) m.top m.rate) (test 2 m))
    by (suc d) e = heads-turn m.way m (test 2 m) v o.towards o.slow (omega arith)
    by zero e = heads-there m (omega (arith, o.slow, o.towards ∙ e, v.least)) (o.towards ∙ e) e

-- ---- one tick

-- by what is pending
unfoldable Course : Phase → Motor → Type 0
Course Resting m = Unit {0}
Course Requested m = m.rate ≡ 1
Course (Armed time) m = OnCourse m
Course (Matched captured time) m = OnCourse m

armed-course : (c t : ℕ) (m : Motor) → OnCourse m → Course (armed c t) m
unfolding Course armed
armed-course c t m o = pick-cases (λ p. Course p m) (due c t) (λ a. o) (λ a. o)

happened-course : (c : ℕ) (p : Phase) (m : Motor) → Course p m → Course (happened c p) m
unfolding Course happened
happened-course c Resting m o = tt
happened-course c Requested m o = o
happened-course c (Armed t) m o = armed-course c t m o
happened-course c (Matched t x) m o = o

-- what a tick of a group with the motor m leaves
record Drives (m : Motor) (h : Group) : Type 0 where
  motor : (h.motor ≡ m) ⊎ Stride m h.motor
  course : Course h.phase h.motor

outcome-drives : (g : Group) (reference : ℕ) (o : Outcome) → Heads g.motor o → Drives g.motor (outcome g reference o)
unfolding outcome Heads Course
outcome-drives g reference Arrived d = record { motor = inl refl; course = tt }
outcome-drives g reference (Step w k) d = record { motor = inr d; course = armed-course _ _ _ d.course }

serve-drives : (p : Phase) (g : Group) → Valid g.motor → Course p g.motor → Course g.phase g.motor → Drives g.motor (serve p g)
unfolding serve Course
serve-drives Resting g v o c = record { motor = inl refl; course = c }
serve-drives Requested g v o c = outcome-drives g (time_of g) (on_request g.motor) (heads-request g.motor v o)
serve-drives (Armed t) g v o c = record { motor = inl refl; course = c }
serve-drives (Matched t m) g v o c = outcome-drives g t (on_match g.motor) (heads-match g.motor v o)

tick-drives : (u : Bool) (p : ℕ → ℕ) (g : Group) → Sound g → Course g.phase g.motor → Drives g.motor (tick u p g)
unfolding tick clocked
tick-drives u p g s o =
    let c : Course (happened (next_time g) g.phase) g.motor = happened-course (next_time g) g.phase g.motor o in
    pick-cases (Drives g.motor) u (λ a. serve-drives (clocked p g).phase (clocked p g) s.valid c c) (λ a. record { motor = inl refl; course = c })

-- ---- many

-- the step that is seen
abbrev step_of : Group → Group → Move
step_of g h = record { way = pick (ltb g.motor.position h.motor.position) Right Left; rate = g.motor.rate }

seen-still : (g h : Group) → h.motor ≡ g.motor → moves_of Tick (see g) (see h) ≡ []
unfolding moves_of see
seen-still g h e = rw (eq-eqb g.motor.position h.motor.position (ap (λ (m : Motor). m.position) (sym e)))

seen_step : (g h : Group) → Stride g.motor h.motor → moves_of Tick (see g) (see h) ≡ step_of g h ∷ []
unfolding moves_of see
seen_step g h s = rw (ne_eqb g.motor.position h.motor.position s.moves)

-- a property of the step list of a tick: for no step, with the motor left, and for one
by-tick : (u : Bool) (p : ℕ → ℕ) (g : Group) (C : List Move → Type 0) → Sound g → bound g.phase ≡ true → Course g.phase g.motor
    → (Sound (tick u p g) → Course (tick u p g).phase (tick u p g).motor → (tick u p g).motor ≡ g.motor → C [])
    → (Sound (tick u p g) → Course (tick u p g).phase (tick u p g).motor → Stride g.motor (tick u p g).motor → C (step_of g (tick u p g) ∷ []))
    → C (moves_of Tick (see g) (see (tick u p g)))
by-tick u p g C s b o still on =
    let d : Drives g.motor (tick u p g) = tick-drives u p g s o in
    let z : Sound (tick u p g) = ticked-sound g.motor (tick u p g) (one-tick.does u p g s b) in
    ⊎_elim (λ e. rw (seen-still g (tick u p g) e) (still z d.course e)) (λ e. rw (seen_step g (tick u p g) e) (on z d.course e)) d.motor

slow-steps : (g : Group) (acts : List Act) → Sound g → Course g.phase g.motor → Running (moments g acts) → NoTarget (moments g acts)
    → g.motor.rate ≡ 1 → distance g.motor.position g.motor.target ≤ g.motor.top → AllSlow (moves_in (moments g acts))
unfolding moments moves_in Running NoTarget next event_of see altered moves_of is_target AllSlow
slow-steps g [] s o r n e l = tt
slow-steps g (Ticks u p ∷ acts) s o r n e l =
    by-tick u p g (λ ys. AllSlow (ys ++ moves_in (moments (tick u p g) acts))) s r.0 o
    (λ z c q. slow-steps (tick u p g) acts z c r.1 n.1 (ap (λ (m : Motor). m.rate) q ∙ e) (subst (λ (m : Motor). distance m.position m.target ≤ m.top) (sym q) l))
    (λ z c q. (e, slow-steps (tick u p g) acts z c r.1 n.1 (q.pace.falls l ∙ omega arith) (omega (arith, q.nearer, q.top))))
slow-steps g (Aims t ∷ acts) s o r n e l = absurd (not-both refl n.0)
slow-steps g (Alters x y ∷ acts) s o r n e l = slow-steps (altered x y g) acts (altered-sound x y g s) o r.1 n.1 e l

-- at the target the latest step was at rate 1
abbrev Ends : Option Move → Motor → Type 0
Ends x m = distance m.position m.target ≡ 0 → LastSlow x

ends-slow : (g : Group) (acts : List Act) (x : Option Move) → Sound g → Course g.phase g.motor → Running (moments g acts) → NoTarget (moments g acts)
    → Ends x g.motor → Ends (latest x (moves_in (moments g acts))) (final g acts).motor
unfolding moments final moves_in latest Running NoTarget next event_of see altered moves_of is_target LastSlow
ends-slow g [] x s o r n e = e
ends-slow g (Ticks u p ∷ acts) x s o r n e =
    by-tick u p g (λ ys. Ends (latest x (ys ++ moves_in (moments (tick u p g) acts))) (final (tick u p g) acts).motor) s r.0 o
    (λ z c q. ends-slow (tick u p g) acts x z c r.1 n.1 (subst (Ends x) (sym q) e))
    (λ z c q. ends-slow (tick u p g) acts (some (step_of g (tick u p g))) z c r.1 n.1 (λ k. omega (arith, q.nearer, q.fast, q.least)))
ends-slow g (Aims t ∷ acts) x s o r n e = absurd (not-both refl n.0)
ends-slow g (Alters a b ∷ acts) x s o r n e = ends-slow (altered a b g) acts x (altered-sound a b g s) o r.1 n.1 e

other-tick : {A : Type 0} → event_of (Alters 0 true) ≡ Tick → A
unfolding event_of
other-tick e = let z : ◌≡◌ {A = ℕ} 0 1 = cc in absurd (omega arith)

keeps-pace : (g : Group) (acts : List Act) → Sound g → Course g.phase g.motor → Running (moments g acts) → NoTarget (moments g acts) → Paced g.motor.top (moments g acts)
unfolding moments Running NoTarget next event_of see altered is_target Paced
keeps-pace g [] s o r n = tt
keeps-pace g (Ticks u p ∷ acts) s o r n =
    let d : Drives g.motor (tick u p g) = tick-drives u p g s o in
    let rest : Paced (tick u p g).motor.top (moments (tick u p g) acts) = keeps-pace (tick u p g) acts (ticked-sound g.motor (tick u p g) (one-tick.does u p g s r.0)) d.course r.1 n.1 in
    ⊎_elim (λ e. (λ t m. absurd (m (ap (λ (z : Motor). z.position) (sym e))), subst (λ (z : Motor). Paced z.top (moments (tick u p g) acts)) e rest))
    (λ e. (λ t m. e.pace, subst (λ z. Paced z (moments (tick u p g) acts)) e.top rest)) d.motor
keeps-pace g (Aims t ∷ acts) s o r n = absurd (not-both refl n.0)
keeps-pace g (Alters a b ∷ acts) s o r n = (λ t. other-tick t, keeps-pace (altered a b g) acts (altered-sound a b g s) o r.1 n.1)

-- ---- from the request on

first-course : (g : Group) → SetGoing g → Course g.phase g.motor × (g.motor.rate ≡ 1)
unfolding Course SlowAtFirst
first-course g a =
    let e : g.motor.rate ≡ 1 = subst (λ p. SlowAtFirst p g.motor.rate) a.phase a.sound.slow in (rw a.phase e, e)

arrived-there : (g : Group) (now : List Act) → SetGoing g → Fair g now → Running (moments g now) → NoTarget (moments g now) → (after (see g) (moments g now)).bound ≡ false
    → distance (final g now).motor.position (final g now).motor.target ≡ 0
unfolding moments final Running Fair after bound distance see
arrived-there g now a f r n z =
    let k : Standing g.motor.target (after (see g) (moments g now)) = (counted g [] now a tt f tt (rw a.phase refl) r n).stands z in
    let st : Standing g.motor.target (see (final g now)) = subst (Standing g.motor.target) (after-moments g now) k in
    omega (arith, st.there, st.same)

pub slow-moves : SlowMoves
unfolding LastSlow
slow-moves =
    record {
      short = λ g now a f r n. slow-steps g now a.sound (first-course g a).0 r n (first-course g a).1;
      ends = λ g now a f r n z. ends-slow g now none a.sound (first-course g a).0 r n (λ e. tt) (arrived-there g now a f r n z);
      paced = λ g now a f r n. keeps-pace g now a.sound (first-course g a).0 r n;
    }
