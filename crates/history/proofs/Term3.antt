-- Term 3, proved: `term-3`.
use Prim.Native.Nat.{ℕ, zero, suc, ◌+◌, ◌-◌, ◌*◌, ◌≤◌, ◌<◌}
use native.Mathlib.Omega.{arith}
use native.Mathlib.Nat.{eq-or-lt_of_le}
use mathlib.Core.Bool.{Bool, true, false, ◌&&◌}
use mathlib.Core.List.{List, [], ◌∷◌, ◌++◌}
use mathlib.Core.Path.{◌≡◌, refl, ap, sym, subst, ◌∙◌}
use mathlib.Core.Logic.{◌≢◌, ⊎_elim}
use lib.Dec.{eqb, leb}
use lib.ListN.{get_or, take, drop}
use borrow.Author.Tests.{eqb-true, eqb-false}
use Rattle.words.specs.declared.Timer.{Timer}
use Rattle.words.specs.declared.Timer.TheVariants.{Tcr1, Tcr2}
use Rattle.words.specs.Choice.{pick, ask}
use Rattle.words.specs.Clock.{ticks_a_count}
use Rattle.words.specs.Field.{bit_of}
use Rattle.words.proofs.ChoiceLaws.{not-both, and_left, and_right}
use Rattle.motor.specs.Group.{Group, bound, aimed}
use Rattle.motor.specs.Stepping.{period}
use Rattle.motor.specs.Group as group
use Rattle.motor.specs.Count.{Tick, Target, Other, is_target, Sight, Moment, Event, UnderWay, UpToArrival, Running, Keeps, NoTarget, Undisturbed, Dark, EndsInTick, Standing, SlowBefore, moves_in, latest, stop_of, steps_of, steps, ticks_of, ticks_in, longest_wait, Linked, after, Counted, Arrives}
use Rattle.motor.specs.Track.{distance}
use Rattle.motor.specs.GroupCount.{next, final}
use Rattle.motor.specs.GroupCount as group-count
use Rattle.motor.proofs.Counts.{dark}
use Rattle.motor.proofs.Arrival.{arrives}
use Rattle.motor.proofs.Term3.{every-count}
use Rattle.unit.specs.declared.State.{State}
use Rattle.unit.specs.TheUnit.{position, target, next_rate, reset_state, cisr, reg, channel, status, exists, cntl0, cntl1, last, stepping, reaches, is_bound}
use Rattle.unit.specs.declared.Place.{Place}
use Rattle.unit.specs.declared.Place.TheVariants.{AtWord}
use Rattle.unit.specs.Gate.{gate, place, is_free, ask_word, ask_place, stored}
use Rattle.unit.specs.Calls.{Call, answered_by, write_of, is_taken}
use Rattle.unit.specs.Readings.{word_address}
use Rattle.history.specs.Moments.{Act, Writes, acts, does, through, Typed, see, is_target_of, event_of, moments, SetsGoing}
use Rattle.history.specs.Term3.{in_ticks, longest_step, Freed, Run, at_request, at_start, at_count, at_end, moments_gone, moments_now, Cut, Homed, Term3}
use Rattle.unit.proofs.Reset.{Sized}
use Rattle.history.proofs.Look.{look}
use Rattle.history.proofs.Own.{view_in, view, group_in}
use Rattle.history.proofs.Alone.{Alone}
use Rattle.unit.proofs.Tests.{or_right}
use Rattle.unit.proofs.Readings.{word-place}
use Rattle.history.proofs.Held.{Held, is_free_lem, rests-still, still-reach}
use Rattle.history.proofs.Walk.{IfTaken, taken-answer, taken_yes, word-yes, RegisterDeeds, walk-place}
use Rattle.unit.proofs.Places.{PlaceGood, place-good, gate-place}
use Rattle.history.proofs.Leaves.{word-leaves, requests-leave}
use Rattle.history.proofs.Lit.{is-unbound}
use Rattle.history.proofs.Writes.{dark-keep, status-reg, Aimed, write-target}
use Rattle.history.proofs.Fine.{Fine, fine-reset}
use Rattle.history.proofs.Chain.{Ahead, ahead, bound-stepping, seen, target-place, running-held, Acts, acts as acts-of, Chained, chain}
use Rattle.history.proofs.Begin.{Begun, begin, set-going}
use Rattle.history.proofs.Calls.{through-append, Words, words-acts, words-first, words-second, fine-through}
use Rattle.history.proofs.WholeSteps.{whole-steps}
use Rattle.history.specs.OneStep.{WholeSteps}

-- ---- no write sets a status bit

unfoldable Darkens : ℕ → State → State → Type 0
Darkens c s w = status w c ≡ true → status s c ≡ true

dark-register : (c i v : ℕ) (s : State) → Sized s → RegisterDeeds (Darkens c s) s i v
unfolding Darkens status
dark-register c i v s z =
    record {
      keep = λ e. dark-keep c v s z;
      plain = λ n f r. status-reg s i v c n;
      functions = λ a b q. status-reg s i v c (λ e. omega arith);
      requests = λ a b. word-yes (Darkens c s) 8 (8 * (8 - i)) v s (λ t. sym (ap (λ x. bit_of x c) ((requests-leave 8 i v s (omega arith) a b).registers cisr (λ e. omega arith))) ∙ t);
    }

dark-word : (c j i v : ℕ) (s : State) → i < 8 → Darkens c s (stored s (8 * j + i) v)
unfolding Darkens status reg
dark-word c j i v s l t = sym (ap (λ r. bit_of (get_or r cisr 0) c) (word-leaves j i v s l).registers) ∙ t

dark-place : (c : ℕ) (s : State) (p : Place) (v : ℕ) → Sized s → PlaceGood p → IfTaken (Darkens c s) s (ask_place s p v)
unfolding Darkens
dark-place c s p v z g =
    walk-place (Darkens c s) s p v (λ i e l. dark-register c i v s z) (λ j i e m l. record { missing = λ x t. t; target = λ q k n. dark-word c j i v s l; free = λ q. dark-word c j i v s l }) g

write-dark : (c a v : ℕ) (s : State) → Sized s → status (write_of s a v).state c ≡ true → status s c ≡ true
unfolding write_of Darkens
write-dark c a v s z = rw (gate-place s a v) (taken-answer (Darkens c s) s (ask_place s (place a) v) (λ t. t) (dark-place c s (place a) v z (place-good a)))

-- ---- the arrival frees the group

freed-member : (c : ℕ) (s : State) → Ahead c s → stepping s c ≡ false → (j : ℕ) → c ≤ j → j ≤ last s c → is_bound s j ≡ false
freed-member c s a g j x y = is-unbound j s own none
  where
    own : stepping s j ≡ false
    own = ⊎_elim (λ e. subst (λ k. stepping s k ≡ false) e g) (λ l. rests-still s j (a.alone.rest j l y)) (eq-or-lt_of_le x)

    none : (p : ℕ) → reaches s j p ≡ false
    none p = by (eqb c p) refl
      where
        by : (b : Bool) → eqb c p ≡ b → reaches s j p ≡ false
        by true t = still-reach s j p (subst (λ k. stepping s k ≡ false) (eqb-true c p t) g)
        by false t = a.alone.apart j x y p (eqb-false c p t)

-- CURRENT_POSITION of a channel is a parameter word
position-place : (c : ℕ) → c < 16 → place (0xf04 + 16 * c) ≡ AtWord c 2
position-place c h = let e : 0xf04 + 16 * c ≡ word_address c 2 = omega arith in ap place e ∙ word-place c 2 h (omega arith)

free-writable : (c : ℕ) (s : State) (v : ℕ) → is_free s c ≡ true → is_taken (answered_by (ask_word s c 2 v) s).answer ≡ true
unfolding ask_word exists is_taken answered_by ask
free-writable c s v e = rw (or_right (leb 14 c) true refl, e)

freed : (c : ℕ) (s : State) → c < 16 → Ahead c s → is_bound s c ≡ false → Freed c s
unfolding write_of ask_place
freed c s h a e =
    let g : stepping s c ≡ false = sym (bound-stepping c s a.alone) ∙ e in
    record {
      unbound = freed-member c s a g;
      writable = λ v. subst (λ k. is_taken (answered_by k s).answer ≡ true) (sym (gate-place s (0xf04 + 16 * c) v))
          (subst (λ p. is_taken (answered_by (ask_place s p v) s).answer ≡ true) (sym (position-place c h)) (free-writable c s v (is_free_lem c s e (a.served g))));
    }

-- ---- a run from its request on

-- a count at the same words under other names
renamed : (p q : ℕ) (v w : Sight) (g h n m : List Moment) → p ≡ q → v ≡ w → g ≡ h → n ≡ m → Counted p v g n → Counted q w h m
renamed p q v w g h n m a b c d x =
    subst (λ y. Counted q w h y) d (subst (λ y. Counted q w y n) c (subst (λ y. Counted q y g n) b (subst (λ y. Counted y v g n) a x)))

in-ticks : (k : Timer) (n : ℕ) → in_ticks k n ≡ ticks_a_count k * n
unfolding in_ticks ticks_a_count
in-ticks Tcr1 n = omega arith
in-ticks Tcr2 n = refl

longest-step : (c : ℕ) (s : State) → longest_step c s ≡ group.longest_step (view s c).group
unfolding longest_step group.longest_step group.first_period view view_in group_in look cntl0 cntl1
longest-step c s = in-ticks (channel s c).timer (period (cntl0 s c) (cntl1 s c) 1)

group-bound : (c : ℕ) (s : State) → Alone c s → is_bound s c ≡ true → bound (view s c).group.phase ≡ true
unfolding view view_in group_in look stepping
group-bound c s a e = sym (bound-stepping c s a) ∙ e

run-counted : (c : ℕ) (s : State) (gone now : List Act) → Begun c s → Running (moments c s gone) → is_bound (through s gone) c ≡ true
    → Running (moments c (through s gone) now) → NoTarget (moments c (through s gone) now)
    → Counted (longest_step c (through s gone)) (see c s) (moments c s gone) (moments c (through s gone) now)
run-counted c s gone now b run e run' free =
    let t : State = through s gone in
    let x : Chained c s gone = chain c gone s (ahead c s b.held) run in
    let y : Chained c t now = chain c now t x.ahead run' in
    let g : Group = (view s c).group in
    let h : Group = final g x.acts in
    let same : moments c t now ≡ group-count.moments h y.acts = y.same ∙ ap (λ z. group-count.moments z y.acts) x.end in
    let up : bound h.phase ≡ true = ap (λ (z : Group). bound z.phase) (sym x.end) ∙ group-bound c t x.ahead.alone e in
    renamed (group.longest_step h) (longest_step c t) (group-count.see g) (see c s) (group-count.moments g x.acts) (moments c s gone) (group-count.moments h y.acts) (moments c t now)
    (ap group.longest_step (sym x.end) ∙ sym (longest-step c t)) (sym (seen c s (ahead c s b.held))) (sym x.same) (sym same)
    (every-count.counted g x.acts y.acts (set-going c s b) x.fair (subst (λ z. group-count.Fair z y.acts) x.end y.fair) (subst Running x.same run) up (subst Running same run') (subst NoTarget same free))

run-dark : (c : ℕ) (s : State) (gone : List Act) → Begun c s → Running (moments c s gone) → Dark (moments c s gone)
run-dark c s gone b run =
    let x : Chained c s gone = chain c gone s (ahead c s b.held) run in
    subst Dark (sym x.same) (dark (view s c).group x.acts x.fair)

pub after-moments : (c : ℕ) (s : State) (xs : List Act) → after (see c s) (moments c s xs) ≡ see c (through s xs)
unfolding after moments through
after-moments c s [] = refl
after-moments c s (x ∷ xs) = after-moments c (does x s) xs

linked : (c : ℕ) (s : State) (xs : List Act) → Linked (see c s) (moments c s xs)
unfolding Linked moments
linked c s [] = tt
linked c s (x ∷ xs) = (refl, linked c (does x s) xs)

take-moments : (k c : ℕ) (s : State) (xs : List Act) → take k (moments c s xs) ≡ moments c s (take k xs)
unfolding moments
take-moments zero c s xs = refl
take-moments (suc k) c s [] = refl
take-moments (suc k) c s (x ∷ xs) = rw (take-moments k c (does x s) xs)

-- ---- what keeps a motor bound

-- what is no tick leaves it so
keeps_bound : (c : ℕ) (x : Act) (s : State) → Held c s → (event_of c x s ≡ Tick → is_bound (does x s) c ≡ true) → is_bound (does x s) c ≡ true
unfolding next group-count.event_of stepping view view_in group_in look aimed group.altered
keeps_bound c x s h ticks = by y.act y.group y.event
  where
    y : Acts c s (does x s) (event_of c x s)
    y = acts-of c x s h

    same : bound (view (does x s) c).group.phase ≡ true → is_bound (does x s) c ≡ true
    same e = bound-stepping c (does x s) y.ahead.alone ∙ e

    up : bound (view s c).group.phase ≡ true
    up = h.up

    by : (a : group-count.Act) → (view (does x s) c).group ≡ next a (view s c).group → event_of c x s ≡ group-count.event_of a → is_bound (does x s) c ≡ true
    by (group-count.Ticks o q) g e = ticks e
    by (group-count.Aims t) g e = same (ap (λ (z : Group). bound z.phase) g ∙ up)
    by (group-count.Alters a b) g e = same (ap (λ (z : Group). bound z.phase) g ∙ up)

-- one moment later: still ahead
next-ahead : (c : ℕ) (x : Act) (s : State) → Held c s → Ahead c (does x s)
next-ahead c x s h = (acts-of c x s h).ahead

under-way : (c : ℕ) (xs : List Act) (s : State) → Ahead c s → is_bound s c ≡ true → UnderWay (moments c s xs) → Running (moments c s xs) × (is_bound (through s xs) c ≡ true)
unfolding moments UnderWay Running through see
under-way c [] s a b u = (tt, b)
under-way c (x ∷ xs) s a b u =
    let h : Held c s = running-held c s a b in
    let k : Running (moments c (does x s) xs) × (is_bound (through (does x s) xs) c ≡ true) = under-way c xs (does x s) (next-ahead c x s h) (keeps_bound c x s h u.0) u.1 in
    ((b, k.0), k.1)

up_to : (c : ℕ) (xs : List Act) (s : State) → Ahead c s → is_bound s c ≡ true → UpToArrival (moments c s xs) → Running (moments c s xs)
unfolding moments UpToArrival Running see
up_to c [] s a b u = tt
up_to c (x ∷ []) s a b u = (b, tt)
up_to c (x ∷ (y ∷ xs)) s a b u =
    let h : Held c s = running-held c s a b in
    (b, up_to c (y ∷ xs) (does x s) (next-ahead c x s h) (keeps_bound c x s h u.0) u.1)

-- ---- a cut of a history

started : (r : Run) → Cut r → Fine (at_request r)
started r k = fine-through r.before reset_state (words-first r.before _ (subst Words k.whole (words-acts r.calls k.listed))) fine-reset

pub begun : (r : Run) → Cut r → Begun r.c (at_start r)
begun r k = begin r.c r.a r.v (at_request r) (started r k) k.starts

bound-begun : (c : ℕ) (s : State) → Begun c s → is_bound s c ≡ true
bound-begun c s b = bound-stepping c s b.held.alone ∙ b.held.up

pub gone-by : (r : Run) → Cut r → Running (moments_gone r) × (is_bound (at_count r) r.c ≡ true)
gone-by r k = let b : Begun r.c (at_start r) = begun r k in under-way r.c r.gone (at_start r) (ahead r.c (at_start r) b.held) (bound-begun r.c (at_start r) b) k.under-way

pub count-ahead : (r : Run) → Cut r → Ahead r.c (at_count r)
count-ahead r k = (chain r.c r.gone (at_start r) (ahead r.c (at_start r) (begun r k).held) (gone-by r k).0).ahead

pub now-by : (r : Run) → Cut r → UpToArrival (moments_now r) → Running (moments_now r)
now-by r k u = up_to r.c r.now (at_count r) (count-ahead r k) (gone-by r k).1 u

counts : (r : Run) → Cut r → Running (moments_now r) → NoTarget (moments_now r) → Counted (longest_step r.c (at_count r)) (see r.c (at_start r)) (moments_gone r) (moments_now r)
counts r k run free = run-counted r.c (at_start r) r.gone r.now (begun r k) (gone-by r k).0 (gone-by r k).1 run free

wholes : (r : Run) → Cut r → Running (moments_now r) → WholeSteps r.c (at_count r) r.now
unfolding through
wholes r k run =
    let b : Begun r.c (at_start r) = begun r k in
    let x : Chained r.c (at_start r) r.gone = chain r.c r.gone (at_start r) (ahead r.c (at_start r) b.held) (gone-by r k).0 in
    let w : Words (Writes r.a r.v ∷ (r.gone ++ (r.now ++ r.rest))) = words-second r.before _ (subst Words k.whole (words-acts r.calls k.listed)) in
    let f : Fine (at_start r) = fine-through (Writes r.a r.v ∷ []) (at_request r) (words-first (Writes r.a r.v ∷ []) _ w) (started r k) in
    let u : Words (r.gone ++ (r.now ++ r.rest)) = words-second (Writes r.a r.v ∷ []) _ w in
    whole-steps r.c r.now (at_count r) x.ahead (fine-through r.gone (at_start r) (words-first r.gone _ u) f) (words-first r.now r.rest (words-second r.gone _ u)) run

frees : (r : Run) → Cut r → Running (moments_now r) → NoTarget (moments_now r) → is_bound (at_end r) r.c ≡ false → Freed r.c (at_end r)
frees r k run free e =
    let x : Chained r.c (at_start r) r.gone = chain r.c r.gone (at_start r) (ahead r.c (at_start r) (begun r k).held) (gone-by r k).0 in
    let y : Chained r.c (at_count r) r.now = chain r.c r.now (at_count r) x.ahead run in
    freed r.c (at_end r) (omega (arith, (begun r k).held.seen.within)) y.ahead e

darkens : (r : Run) → Cut r → Dark (moments r.c (at_request r) (Writes r.a r.v ∷ r.gone))
unfolding moments Dark does see
darkens r k = (λ b e. write-dark r.c r.a r.v (at_request r) (started r k).sized e, run-dark r.c (at_start r) r.gone (begun r k) (gone-by r k).0)

-- ---- the counts that document 01 names

aimed-target : (c v : ℕ) (s w : State) → Aimed c w s v → target w c ≡ v
unfolding target view view_in group_in look aimed
aimed-target c v s w a = ap (λ (g : Group). g.motor.target) a.group

taken-target : (c a v : ℕ) (s : State) → Held c s → event_of c (Writes a v) s ≡ Target → target (does (Writes a v) s) c ≡ v
unfolding event_of does write_of is_target ask_place
taken-target c a v s h e = by (is_target_of c (place a) && is_taken (answered_by (gate s a v) s).answer) refl e
  where
    by : (b : Bool) → (is_target_of c (place a) && is_taken (answered_by (gate s a v) s).answer) ≡ b → pick b Target Other ≡ Target → target (answered_by (gate s a v) s).state c ≡ v
    by true t q =
        let p : place a ≡ AtWord c 3 = target-place c (place a) (and_left (is_target_of c (place a)) _ t) in
        let g : gate s a v ≡ ask_place s (AtWord c 3) v = gate-place s a v ∙ ap (λ y. ask_place s y v) p in
        subst (λ k. is_taken (answered_by k s).answer ≡ true → target (answered_by k s).state c ≡ v) (sym g) (λ y. aimed-target c v s _ (taken_yes (λ w. Aimed c w s v) s (ask_place s (AtWord c 3) v) (write-target c v s h) y))
        (and_right (is_target_of c (place a)) _ t)
    by false t q = absurd (not-both refl (ap is_target (sym q)))

append_assoc : (xs ys zs : List Act) → (xs ++ ys) ++ zs ≡ xs ++ (ys ++ zs)
append_assoc [] ys zs = refl
append_assoc (x ∷ xs) ys zs = ap (λ z. x ∷ z) (append_assoc xs ys zs)

module _ (calls : List Call) (before now rest : List Act) (c a v : ℕ) (l : Typed calls) (e : acts calls ≡ before ++ (Writes a v ∷ (now ++ rest)))
    (g : SetsGoing c a v (through reset_state before)) where
  abbrev going : State
  going = does (Writes a v) (through reset_state before)

  request-cut : Cut record { calls = calls; c = c; a = a; v = v; before = before; gone = []; now = now; rest = rest }
  unfolding moments UnderWay
  request-cut = record { listed = l; whole = e; starts = g; under-way = tt }

  request-counts : UpToArrival (moments c going now) → NoTarget (moments c going now) → Counted (longest_step c going) (see c going) [] (moments c going now)
  unfolding moments through
  request-counts u free = counts _ request-cut (now-by _ request-cut u) free

under-way-last : (c : ℕ) (xs : List Act) (x : Act) (s : State) → UnderWay (moments c s xs) → event_of c x (through s xs) ≡ Target → UnderWay (moments c s (xs ++ (x ∷ [])))
unfolding through moments UnderWay is_target
under-way-last c [] x s u e = (λ q. absurd (not-both (ap is_target (sym q ∙ e)) refl), tt)
under-way-last c (y ∷ xs) x s u e = (u.0, under-way-last c xs x (does y s) u.1 e)

module _ (calls : List Call) (before gone now rest : List Act) (c a v b x : ℕ) (l : Typed calls)
    (e : acts calls ≡ before ++ (Writes a v ∷ (gone ++ (Writes b x ∷ (now ++ rest))))) (g : SetsGoing c a v (through reset_state before)) where
  abbrev t : State
  t = does (Writes a v) (through reset_state before)

  abbrev w : State
  w = does (Writes b x) (through t gone)

  abbrev run-to : Run
  run-to = record { calls = calls; c = c; a = a; v = v; before = before; gone = gone ++ (Writes b x ∷ []); now = now; rest = rest }

  count-from : through t (gone ++ (Writes b x ∷ [])) ≡ w
  unfolding through
  count-from = through-append t gone (Writes b x ∷ [])

  module _ (u : UnderWay (moments c t gone)) (q : event_of c (Writes b x) (through t gone) ≡ Target) where
    target-cut : Cut run-to
    target-cut =
        record {
          listed = l;
          whole = e ∙ ap (λ z. before ++ (Writes a v ∷ z)) (sym (append_assoc gone (Writes b x ∷ []) (now ++ rest)));
          starts = g;
          under-way = under-way-last c gone (Writes b x) t u q;
        }

    target-aims : target w c ≡ x
    unfolding see
    target-aims =
        let k : Begun c t = begun run-to target-cut in
        let y : Running (moments c t gone) × (is_bound (through t gone) c ≡ true) = under-way c gone t (ahead c t k.held) (bound-begun c t k) u in
        let z : Chained c t gone = chain c gone t (ahead c t k.held) y.0 in
        taken-target c b x (through t gone) (running-held c (through t gone) z.ahead y.1) q

    target-counts : UpToArrival (moments c w now) → NoTarget (moments c w now)
        → (target w c ≡ x) × Counted (longest_step c w) (see c t) (moments c t (gone ++ (Writes b x ∷ []))) (moments c w now)
    target-counts =
        subst (λ y. UpToArrival (moments c y now) → NoTarget (moments c y now) → (target w c ≡ x) × Counted (longest_step c y) (see c t) (moments c t (gone ++ (Writes b x ∷ []))) (moments c y now)) count-from
        (λ n free. (target-aims, counts run-to target-cut (now-by run-to target-cut n) free))

arrivals : (r : Run) → Cut r → (l : ℕ) → l ≢ 0 → Keeps l (moments_gone r) → Undisturbed l (moments_now r)
    → longest_wait (longest_step r.c (at_count r)) (steps (see r.c (at_start r)) (moments_gone r)) ≤ ticks_in (moments_now r)
    → Arrives (see r.c (at_start r)) (moments_gone r) (moments_now r)
arrivals r k l some on u enough =
    arrives (longest_step r.c (at_count r)) (see r.c (at_start r)) (moments_gone r) (moments_now r)
    (subst (λ v. Linked v (moments_now r)) (sym (after-moments r.c (at_start r) r.gone)) (linked r.c (at_count r) r.now))
    (λ n run free. let e : take n (moments_now r) ≡ moments r.c (at_count r) (take n r.now) = take-moments n r.c (at_count r) r.now in
    subst (λ ms. Counted (longest_step r.c (at_count r)) (see r.c (at_start r)) (moments_gone r) ms) (sym e)
    (run-counted r.c (at_start r) r.gone (take n r.now) (begun r k) (gone-by r k).0 (gone-by r k).1 (subst Running e run) (subst NoTarget e free)))
    l some on u enough

-- ---- from the request to the target

record Split (c : ℕ) (s : State) (xs : List Act) (n : ℕ) : Type 0 where
  first : List Act
  later : List Act
  parts : xs ≡ first ++ later
  ticks : ticks_in (moments c s first) ≡ n

one_at_most : (e : Event) → ticks_of e ≤ 1
unfolding ticks_of
one_at_most Tick = omega arith
one_at_most Target = omega arith
one_at_most Other = omega arith

-- what happens, up to the n-th tick
split : (c : ℕ) (xs : List Act) (s : State) (n : ℕ) → n ≤ ticks_in (moments c s xs) → Split c s xs n
unfolding moments ticks_in
split c [] s n h = record { first = []; later = []; parts = refl; ticks = omega arith }
split c (x ∷ xs) s zero h = record { first = []; later = x ∷ xs; parts = refl; ticks = refl }
split c (x ∷ xs) s (suc n) h =
    let m : ℕ = suc n - ticks_of (event_of c x s) in
    let k : Split c (does x s) xs m = split c xs (does x s) m (omega arith) in
    record { first = x ∷ k.first; later = k.later; parts = ap (λ z. x ∷ z) k.parts; ticks = omega (arith, k.ticks, one_at_most (event_of c x s)) }

take-drop : (n : ℕ) (xs : List Act) → xs ≡ take n xs ++ drop n xs
take-drop zero xs = refl
take-drop (suc n) [] = refl
take-drop (suc n) (x ∷ xs) = ap (λ z. x ∷ z) (take-drop n xs)

ticks-first : (c : ℕ) (s : State) (xs ys : List Act) → ticks_in (moments c s xs) ≤ ticks_in (moments c s (xs ++ ys))
unfolding moments ticks_in
ticks-first c s [] ys = omega arith
ticks-first c s (x ∷ xs) ys = omega (arith, ticks-first c (does x s) xs ys)

calm-first : (l c : ℕ) (s : State) (xs ys : List Act) → Keeps l (moments c s (xs ++ ys)) → NoTarget (moments c s (xs ++ ys)) → Undisturbed l (moments c s xs)
unfolding moments Keeps NoTarget Undisturbed
calm-first l c s [] ys e n = tt
calm-first l c s (x ∷ xs) ys e n = λ b. (e.0, n.0, calm-first l c (does x s) xs ys e.1 n.1)

home : (c : ℕ) (t : State) (first later : List Act) → ticks_in (moments c t first) ≤ longest_wait (longest_step c t) (distance (position t c) (target t c))
    → Arrives (see c t) [] (moments c t first) → Homed c t (first ++ later)
unfolding after see
home c t first later n k =
    let made : List Act = take k.made first in
    let e : take k.made (moments c t first) ≡ moments c t made = take-moments k.made c t first in
    let v : after (see c t) (take k.made (moments c t first)) ≡ see c (through t made) = ap (after (see c t)) e ∙ after-moments c t made in
    let st : Standing (target t c) (see c (through t made)) = subst (Standing (target t c)) v k.stands in
    let d : first ≡ made ++ drop k.made first = take-drop k.made first in
    record {
      first = made;
      later = drop k.made first ++ later;
      parts = ap (λ z. z ++ later) d ∙ append_assoc made (drop k.made first) later;
      within = let l : ticks_in (moments c t made) ≤ ticks_in (moments c t first) = rw (ap (λ z. ticks_in (moments c t z)) d) (ticks-first c t made (drop k.made first)) in omega arith;
      by-tick = subst EndsInTick e k.by-tick;
      unbound = ap (λ (z : Sight). z.bound) (sym v) ∙ k.freed;
      there = st.there;
      same = st.same;
      slowest = st.slowest;
      lit = st.status;
    }

homes : (calls : List Call) (before now rest : List Act) (c a v : ℕ)
    → let s : State = through reset_state before in
    let t : State = does (Writes a v) s in
    Typed calls → acts calls ≡ before ++ (Writes a v ∷ (now ++ rest)) → SetsGoing c a v s
    → (n : ℕ) → n ≢ 0 → Keeps n (moments c t now) → NoTarget (moments c t now)
    → longest_wait (longest_step c t) (distance (position t c) (target t c)) ≤ ticks_in (moments c t now)
    → Homed c t now
unfolding moves_in latest steps_of stop_of SlowBefore moments Keeps NoTarget Running after through see UpToArrival
homes calls before now rest c a v l e g n some on free enough =
    let t : State = does (Writes a v) (through reset_state before) in
    let k : Split c t now (longest_wait (longest_step c t) (distance (position t c) (target t c))) = split c now t _ enough in
    let r : Run = record { calls = calls; c = c; a = a; v = v; before = before; gone = []; now = k.first; rest = k.later ++ rest } in
    let w : acts calls ≡ before ++ (Writes a v ∷ (k.first ++ (k.later ++ rest))) =
    e ∙ ap (λ z. before ++ (Writes a v ∷ (z ++ rest))) k.parts ∙ ap (λ z. before ++ (Writes a v ∷ z)) (append_assoc k.first k.later rest) in
    let slow : next_rate t c ≡ 1 = (request-counts calls before [] (now ++ rest) c a v l e g tt tt).first-slow in
    let x : Undisturbed n (moments c t k.first) = calm-first n c t k.first k.later (subst (λ z. Keeps n (moments c t z)) k.parts on) (subst (λ z. NoTarget (moments c t z)) k.parts free) in
    subst (Homed c t) (sym k.parts)
    (home c t k.first k.later (omega (arith, k.ticks))
    (arrivals r (request-cut calls before k.first (k.later ++ rest) c a v l w g) n some tt x (rw slow (omega (arith, k.ticks)))))

pub term-3 : Term3
term-3 =
    record {
      begins = λ r k. bound-begun r.c (at_start r) (begun r k);
      goes_on = λ r k. (gone-by r k).1;
      counted = λ r k u. counts r k (now-by r k u);
      from-request = request-counts;
      from-target = target-counts;
      whole = λ r k u. wholes r k (now-by r k u);
      freed = λ r k u. frees r k (now-by r k u);
      dark = darkens;
      arrives = arrivals;
      comes_home = homes;
    }
