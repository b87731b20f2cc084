-- #105 as #107 restates it, proved: `one-move`.
use Prim.Native.Nat.{ℕ, suc, ◌+◌, ◌*◌, ◌≤◌, ◌<◌}
use native.Mathlib.Omega.{arith}
use native.Mathlib.Nat.{eq-or-lt_of_le}
use mathlib.Core.Bool.{Bool, true, false}
use mathlib.Core.List.{List, [], ◌∷◌, ◌++◌}
use mathlib.Core.Path.{◌≡◌, refl, ap, sym, subst, ◌∙◌}
use mathlib.Core.Logic.{⊎_elim}
use lib.Dec.{leb}
use lib.ListN.{get_or}
use borrow.Author.Tests.{leb-true, le-leb}
use Rattle.words.specs.Field.{field}
use Rattle.words.proofs.ChoiceLaws.{not-both, and_left, and_right}
use Rattle.motor.specs.Group.{Group, bound, time_of, SlowAtFirst}
use Rattle.motor.specs.Schedule.{OnSchedule}
use Rattle.unit.specs.declared.State.{State}
use Rattle.unit.specs.declared.Place.{Place}
use Rattle.unit.specs.declared.Place.TheVariants.{AtRegister, AtWord, AtLate, Nowhere}
use Rattle.unit.specs.TheUnit.{reset_state, channel, word, pin_control, position, mod_count, last, stepping}
use Rattle.unit.specs.Gate.{place}
use Rattle.unit.specs.Calls.{Call}
use Rattle.unit.proofs.Access.{last-small}
use Rattle.history.specs.Moments.{Act, Ticks, Writes, Nothing, SetsGoing, acts, does, through, Typed, is_step_of}
use Rattle.history.proofs.Look.{look}
use Rattle.history.proofs.Own.{view_in, view, group_in}
use Rattle.history.proofs.Held.{Held, rests-still, wide-last}
use Rattle.history.proofs.Leaves.{writes-leave}
use Rattle.history.proofs.Calls.{Words, words-acts, words-first}
use Rattle.history.proofs.Begin.{Begun, begin, unbound-still}
use Rattle.history.proofs.Shown.{Every}
use Rattle.history.proofs.Every.{Good}
use Rattle.history.proofs.Always.{state-good}
use Rattle.isolation.specs.Row.{Row, in_row, felt, LiesApart, Apart}
use Rattle.isolation.specs.Abreast.{Abreast}
use Rattle.isolation.specs.OneMove.{counts_of, Course, at_request, at_start, at_first, at_now, from_request, CourseOf, Agree, OneMoveOf, OneMove}
use Rattle.isolation.proofs.Drawn.{write-still, Drawn}
use Rattle.isolation.proofs.Courses.{untouched-first, good-before, begun, scheduled, drawn}
use Rattle.isolation.proofs.Faced.{facing}
use Rattle.isolation.proofs.Together.{together}
use Rattle.isolation.proofs.Settled.{settled, at_rest}
use Rattle.isolation.proofs.Abreast.{abreast-felt}
use Rattle.isolation.proofs.Ideal.{Rest, rests_all, Settles, along-run}

-- ---- a request leaves the words

words-place : (c a v : ℕ) (s : State) (p : Place) → place a ≡ p → is_step_of c v p ≡ true → (does (Writes a v) s).words ≡ s.words
unfolding does is_step_of
words-place c a v s (AtRegister i) e t = (writes-leave.at_register s a v i e).words
words-place c a v s (AtWord j i) e t = absurd (not-both t refl)
words-place c a v s (AtLate k) e t = absurd (not-both t refl)
words-place c a v s Nowhere e t = absurd (not-both t refl)

-- ---- a course at its request

-- the row at reset
abbrev first : Rest
first j i = settled reset_state j i

module _ (r : Row) (real : r.final < 16) (c : ℕ) (i : in_row r c ≡ true) (k : Course) (x : CourseOf Typed r c k) where
  good-reset : Good reset_state
  unfolding through
  good-reset = state-good k.calls reset_state record { listed = x.listed; before = []; rest = acts k.calls; cut = refl; reached = refl }

  words-before : Words k.before
  words-before = words-first k.before (Writes k.a k.v ∷ (k.waits ++ (Ticks ∷ (k.since ++ k.rest)))) (subst Words x.whole (words-acts k.calls x.listed))

  -- its words, settled, are those of a row that feels all at once
  settles : Settles r (at_request k) (rests_all (felt r reset_state k.before) first)
  unfolding Settles
  settles =
      along-run r real k.before reset_state first words-before good-reset
      (untouched-first r k.before (Writes k.a k.v ∷ from_request k) reset_state x.untouched) (λ j n m a b. refl)

  same-words : (at_start k).words ≡ (at_request k).words
  same-words = words-place c k.a k.v (at_request k) (place k.a) refl x.starts.step

  same_word : (j n : ℕ) → word (at_start k) j n ≡ word (at_request k) j n
  unfolding word
  same_word j n = ap (λ (u : List ℕ). get_or u (8 * j + n) 0) same-words

  same-last : last (at_start k) c ≡ last (at_request k) c
  unfolding last
  same-last = ap (λ u. field 4 u 0) (same_word c 5)

  go : Begun c (at_start k)
  go = begun r c i k x

  wide : suc c ≤ last (at_start k) c
  unfolding view view_in group_in look last
  wide = go.held.seen.wide

  -- each channel of its group was at rest
  own-rest : stepping (at_request k) c ≡ false
  own-rest = unbound-still c (at_request k) x.starts.resting

  member-rest : (j : ℕ) → c < j → j ≤ last (at_start k) c → stepping (at_request k) j ≡ false
  unfolding Every stepping view view_in group_in look
  member-rest j a b = by (stepping (at_request k) j) refl
    where
      by : (t : Bool) → stepping (at_request k) j ≡ t → stepping (at_request k) j ≡ false
      by true t =
          let h : Held j (at_request k) = ((good-before r c i k x).1 j (omega (arith, last-small (at_start k) c)) t).0 in
          absurd (not-both (ap bound (write-still j k.a k.v (at_request k) h).phase ∙ t) (rests-still (at_start k) j (go.held.alone.rest j a b)))
      by false t = t

  rest : (j : ℕ) → c ≤ j → j ≤ last (at_start k) c → stepping (at_request k) j ≡ false
  rest j a b = ⊎_elim (λ e. subst (λ n. stepping (at_request k) n ≡ false) e own-rest) (λ l. member-rest j l b) (eq-or-lt_of_le a)

  in-row : (j : ℕ) → c ≤ j → j ≤ last (at_start k) c → in_row r j ≡ true
  unfolding in_row
  in-row j a b =
      let f : r.first ≤ c = leb-true r.first c (and_left (leb r.first c) (leb c r.final) i) in
      let l : last (at_start k) c ≤ r.final = subst (λ n. n ≤ r.final) (sym same-last) x.inside in
      rw (le-leb r.first j (omega arith), le-leb j r.final (omega arith)) refl

  -- so are its words as it is asked
  started : (j n : ℕ) → c ≤ j → j ≤ last (at_start k) c → 1 ≤ n → n ≤ 5 → word (at_start k) j n ≡ rests_all (felt r reset_state k.before) first j n
  unfolding Settles
  started j n a b p q = same_word j n ∙ sym (at_rest (at_request k) j n (rest j a b)) ∙ settles j n (in-row j a b) p q

-- ---- two courses

module _ (r : Row) (real : r.final < 16) (c : ℕ) (i : in_row r c ≡ true) (k l : Course) (x : CourseOf Typed r c k) (y : CourseOf Typed r c l)
    (same : felt r reset_state k.before ≡ felt r reset_state l.before) (counts : counts_of c (at_first k) k.since ≡ counts_of c (at_first l) l.since) where
  abbrev s : State
  s = at_start k

  abbrev t : State
  t = at_start l

  both : (j n : ℕ) → c ≤ j → j ≤ last s c → j ≤ last t c → 1 ≤ n → n ≤ 5 → word s j n ≡ word t j n
  both j n a b d p q = started r real c i k x j n a b p q ∙ ap (λ (fs : List _). rests_all fs first j n) same ∙ sym (started r real c i l y j n a d p q)

  own : (n : ℕ) → 1 ≤ n → n ≤ 5 → word s c n ≡ word t c n
  own n p q = both c n (omega arith) (omega (arith, wide r real c i k x)) (omega (arith, wide r real c i l y)) p q

  after : (n : ℕ) → 1 ≤ n → n ≤ 5 → word s (suc c) n ≡ word t (suc c) n
  after n p q = both (suc c) n (omega arith) (wide r real c i k x) (wide r real c i l y) p q

  spans : last s c ≡ last t c
  unfolding last
  spans = ap (λ u. field 4 u 0) (own 5 (omega arith) (omega arith))

  sources : (j : ℕ) → c ≤ j → j ≤ last s c → pin_control s j ≡ pin_control t j
  unfolding pin_control
  sources j a b = both j 1 a b (subst (λ n. j ≤ n) spans b) (omega arith) (omega arith)

  abbrev g : Group
  g = (view s c).group

  abbrev h : Group
  h = (view t c).group

  motors : h.motor ≡ facing h.motor.way g.motor
  unfolding view view_in group_in look
  motors = λ n. record {
    position = sym (own 2 (omega arith) (omega arith)) n;
    target = sym (own 3 (omega arith) (omega arith)) n;
    rate = field 4 (sym (own 4 (omega arith) (omega arith)) n) 0;
    top = field 4 (sym (own 5 (omega arith) (omega arith)) n) 8;
    way = (channel t c).way;
  }

  ramps0 : h.cntl0 ≡ g.cntl0
  unfolding view view_in group_in look
  ramps0 = sym (after 2 (omega arith) (omega arith))

  ramps1 : h.cntl1 ≡ g.cntl1
  unfolding view view_in group_in look
  ramps1 = sym (after 3 (omega arith) (omega arith))

  -- the second one's pins and schedule, in the words of the first
  drawn-second : Drawn c (position s c) (mod_count s c) (last s c) (λ j. pin_control t j) (at_now l)
  unfolding position mod_count
  drawn-second =
      subst {A = Type 0} (λ A. A)
      (λ n. Drawn c (sym (own 2 (omega arith) (omega arith)) n) (field 4 (sym (own 4 (omega arith) (omega arith)) n) 8) (sym spans n) (λ j. pin_control t j) (at_now l))
      (drawn r c i l y)

  scheduled-second : OnSchedule g.cntl0 g.cntl1 (facing h.motor.way g.motor) (time_of (view (at_first l) c).group) (counts_of c (at_first k) k.since) (view (at_now l) c).group
  scheduled-second =
      subst {A = Type 0} (λ A. A)
      (λ n. OnSchedule (ramps0 n) (ramps1 n) (motors n) (time_of (view (at_first l) c).group) (sym counts n) (view (at_now l) c).group) (scheduled r c i l y)

  slow : g.motor.rate ≡ 1
  unfolding view view_in group_in look SlowAtFirst
  slow = subst (λ p. SlowAtFirst p g.motor.rate) (go r real c i k x).phase (go r real c i k x).held.seen.sound.slow

  pub alike : Agree c (at_now k) (at_now l) (last (at_request k) c)
  alike =
      subst (Agree c (at_now k) (at_now l)) (same-last r real c i k x)
      (together c (position s c) (mod_count s c) (last s c) (λ j. pin_control s j) (λ j. pin_control t j) sources (at_now k) (at_now l) (drawn r c i k x) drawn-second
      g.cntl0 g.cntl1 (time_of (view (at_first k) c).group) (time_of (view (at_first l) c).group) (counts_of c (at_first k) k.since)
      g.motor h.motor.way (go r real c i k x).held.seen.sound.valid slow (go r real c i k x).held.seen.sound.shortest (scheduled r c i k x) scheduled-second)

-- ---- #105's premises

reset-good : (xs : List Call) → Typed xs → Good reset_state
unfolding through
reset-good xs w = state-good xs reset_state record { listed = w; before = []; rest = acts xs; cut = refl; reached = refl }

beside : (r : Row) (xs ys : List Call) → Typed xs → Typed ys → (before later : List Act) → acts xs ≡ before ++ later → (then next : List Act) → acts ys ≡ then ++ next
    → Abreast r reset_state reset_state before then → felt r reset_state before ≡ felt r reset_state then
beside r xs ys w u before later e then next f d =
    abreast-felt r reset_state reset_state before then (reset-good xs w) (reset-good ys u) (words-first before later (subst Words e (words-acts xs w))) (words-first then next (subst Words f (words-acts ys u)))
    record { functions = λ j m. refl; priorities = λ j m. refl } d

apart-last : (r : Row) (c a v : ℕ) (xs : List Act) (s : State) → Apart r s (xs ++ (Writes a v ∷ [])) → SetsGoing c a v (through s xs) → LiesApart r (through s xs) c
unfolding Apart through does
apart-last r c a v [] s h g = h.0 c g.step g.taken
apart-last r c a v (Ticks ∷ xs) s h g = apart-last r c a v xs _ h g
apart-last r c a v (Writes b w ∷ xs) s h g = apart-last r c a v xs _ h.1 g
apart-last r c a v (Nothing ∷ xs) s h g = apart-last r c a v xs s h g

lies-inside : (r : Row) (s : State) (c : ℕ) → in_row r c ≡ true → c < last s c → LiesApart r s c → last s c ≤ r.final
unfolding in_row LiesApart
lies-inside r s c i l h =
    let from : r.first ≤ c = leb-true r.first c (and_left (leb r.first c) (leb c r.final) i) in
    let to : c ≤ r.final = leb-true c r.final (and_right (leb r.first c) (leb c r.final) i) in
    ⊎_elim (λ x. x.1) (⊎_elim (λ x. absurd (omega (arith, from))) (λ x. absurd (omega (arith, to)))) h

inside_of : (r : Row) (c : ℕ) → in_row r c ≡ true → (xs : List Call) → Typed xs → (before later : List Act) (a v : ℕ) → acts xs ≡ before ++ (Writes a v ∷ later)
    → SetsGoing c a v (through reset_state before) → Apart r reset_state (before ++ (Writes a v ∷ [])) → last (through reset_state before) c ≤ r.final
unfolding last word
inside_of r c i xs w before later a v e g h =
    let s : State = through reset_state before in
    let x : Good s = state-good xs s record { listed = w; before = before; rest = Writes a v ∷ later; cut = e; reached = refl } in
    let b : Begun c (does (Writes a v) s) = begin c a v s x.0 g in
    let same : last (does (Writes a v) s) c ≡ last s c = ap (λ (u : List ℕ). field 4 (get_or u (8 * c + 5) 0) 0) (words-place c a v s (place a) refl g.step) in
    lies-inside r s c i (subst (λ n. suc c ≤ n) same (wide-last c _ b.held)) (apart-last r c a v before reset_state h g)

pub one-move : OneMove
one-move = record { alike = λ r c real i k l x y same counts. alike r real c i k l x y same counts; side_by_side = beside; group-inside = inside_of }

-- and of every other kind of lists, where each is one whose written values are words
module _ (Listed : List Call → Type 0) (typed : (calls : List Call) → Listed calls → Typed calls) where
  any-course : (r : Row) (c : ℕ) (k : Course) → CourseOf Listed r c k → CourseOf Typed r c k
  any-course r c k x =
      record {
        listed = typed k.calls x.listed;
        whole = x.whole;
        starts = x.starts;
        unserved = x.unserved;
        served = x.served;
        running = x.running;
        inside = x.inside;
        untouched = x.untouched;
        level = x.level;
        kept = x.kept;
        enabled = x.enabled;
      }

  pub one-move-of : OneMoveOf Listed
  one-move-of =
      record {
        alike = λ r c real i k l x y same counts. alike r real c i k l (any-course r c k x) (any-course r c l y) same counts;
        side_by_side = λ r xs ys w u. beside r xs ys (typed xs w) (typed ys u);
        group-inside = λ r c i xs w. inside_of r c i xs (typed xs w);
      }
