-- What the pins of a group show while its motor moves, by its position: `drawn-through`.
use Prim.Native.Nat.{ℕ, ◌+◌, ◌%◌, ◌≤◌, ◌<◌}
use native.Mathlib.Omega.{arith}
use mathlib.Core.Bool.{Bool, true, false, ◌&&◌}
use mathlib.Core.List.{List, [], ◌∷◌}
use mathlib.Core.Path.{◌≡◌, refl, ap, sym, subst, ◌∙◌}
use mathlib.Core.Logic.{⊎_elim}
use Rattle.words.specs.Choice.{pick}
use Rattle.words.specs.Field.{field, bit_of}
use Rattle.words.specs.Rotation.{rotated_right}
use Rattle.words.proofs.ChoiceLaws.{pick-cases, not-both}
use Rattle.motor.specs.declared.Way.{Way}
use Rattle.motor.specs.declared.Way.TheVariants.{Right, Left}
use Rattle.motor.specs.declared.Phase.{Phase}
use Rattle.motor.specs.declared.Phase.TheVariants.{Resting, Requested, Armed, Matched}
use Rattle.motor.specs.Track.{NextTo}
use Rattle.motor.specs.Group.{Group, bound, aimed, altered}
use Rattle.motor.specs.Count.{Event, Tick, Target, Other, Running}
use Rattle.motor.specs.GroupCount.{Act as GroupAct, Ticks as ticks, Aims, Alters, next}
use Rattle.motor.specs.GroupCount as group-count
use Rattle.unit.specs.declared.State.{State}
use Rattle.unit.specs.TheUnit.{pin, channel, channel_control, pin_control, position, mod_count, last, stepping}
use Rattle.unit.specs.OneTick.{tick}
use Rattle.unit.specs.Gate.{place, gate}
use Rattle.unit.specs.Calls.{write_of, is_taken}
use Rattle.unit.proofs.Access.{mod-small}
use Rattle.unit.proofs.Places.{place-good, gate-place}
use Rattle.history.specs.Moments.{Act, Ticks, Writes, Nothing, does, through, is_target_of, event_of, moments}
use Rattle.history.specs.OneStep.{is_past, clock_of, acts_at, unserved, is_pending, pin_after_match, CountMoves, StepIs, StillIs}
use Rattle.history.specs.Always.{GroupShown}
use Rattle.history.proofs.Look.{look}
use Rattle.history.proofs.Own.{view_in, view, group_in}
use Rattle.history.proofs.Alone.{fades-tick, same-last}
use Rattle.history.proofs.Held.{Held}
use Rattle.history.proofs.Walk.{IfTaken, taken-answer}
use Rattle.history.proofs.Calls.{Words}
use Rattle.history.proofs.Chain.{Ahead, Acts, acts, running-held}
use Rattle.history.proofs.Parts.{Part, part}
use Rattle.history.proofs.WholeSteps.{tick_is}
use Rattle.history.proofs.Leaves.{writes-leave}
use Rattle.history.proofs.Shown.{Patterned, Every, shown-tick, Over, over-refl, over-place}
use Rattle.history.proofs.Pins.{Seen, seen-tick}
use Rattle.history.proofs.Every.{Good, good-write}
use Rattle.history.proofs.Always.{good-tick}

-- ---- MOD_CNT

-- MOD_CNT before a step that way
unfoldable pub back_count : Way → ℕ → ℕ
back_count Right m = (m + 15) % 16
back_count Left m = (m + 1) % 16

back-moves : (w : Way) (m n : ℕ) → m < 16 → CountMoves w m n → back_count w n ≡ m
unfolding back_count CountMoves
back-moves Right m n h e = omega arith
back-moves Left m n h e = sym e.1

count-step : (w : Way) (m n p q p0 m0 : ℕ) → CountMoves w m n → NextTo w p q → (m + p0) % 16 ≡ (m0 + p) % 16 → (n + p0) % 16 ≡ (m0 + q) % 16
unfolding CountMoves NextTo
count-step Right m n p q p0 m0 e f h = omega arith
count-step Left m n p q p0 m0 e f h =
    let a : m ≡ (n + 1) % 16 = e.1 in
    omega arith

-- ---- phases

-- what a pin shows after the matches of a tick, where something is to be served
shown-then : (ph : Phase) (now : ℕ) (q : Part) → Seen ph q → is_pending (unserved ph now) ≡ true → pick (acts_at ph now) q.level q.pin ≡ bit_of q.control 15
unfolding Seen unserved acts_at is_pending
shown-then Resting now q p e = absurd (not-both e refl)
shown-then Requested now q p e = p
shown-then (Armed t) now q p e = by (is_past now t) e
  where
    by : (b : Bool) → is_pending (pick b (Matched now t) (Armed t)) ≡ true → pick b q.level q.pin ≡ bit_of q.control 15
    by true e = p
    by false e = absurd (not-both e refl)
shown-then (Matched t m) now q p e = p

unfoldable pub is_armed : Phase → Bool
is_armed Resting = false
is_armed Requested = false
is_armed (Armed t) = true
is_armed (Matched t m) = false

-- a match that is still set was set before
still-armed : (ph : Phase) (now : ℕ) → is_armed (unserved ph now) ≡ true → (is_armed ph ≡ true) × (acts_at ph now ≡ false)
unfolding is_armed unserved acts_at
still-armed Resting now e = absurd (not-both e refl)
still-armed Requested now e = absurd (not-both e refl)
still-armed (Armed t) now e = by (is_past now t) refl e
  where
    by : (b : Bool) → is_past now t ≡ b → is_armed (pick b (Matched now t) (Armed t)) ≡ true → (true ≡ true) × (is_past now t ≡ false)
    by true d e = absurd (not-both e refl)
    by false d e = (refl, d)
still-armed (Matched t m) now e = absurd (not-both e refl)

-- ---- what is drawn

-- The group of c up to `end`, of which `source` are the patterns, whose MOD_CNT was m0 where it stood at p0: MOD_CNT goes with the
-- position, and the pins show it, but with a match set what came before the step.
pub record Drawn (c p0 m0 end : ℕ) (source : ℕ → ℕ) (s : State) : Type 0 where
  pub good : Good s
  pub ahead : Ahead c s
  pub small : c < 16
  pub span : last s c ≡ end
  pub pattern : (j : ℕ) → c ≤ j → j ≤ end → channel_control s j ≡ rotated_right (pin_control s j) (mod_count s c)
  pub seen : (j : ℕ) → c ≤ j → j ≤ end → Seen (channel s c).phase (part c j s)
  pub same : (j : ℕ) → c ≤ j → j ≤ end → pin_control s j ≡ source j
  pub count : (mod_count s c + p0) % 16 ≡ (m0 + position s c) % 16
  pub before : (j : ℕ) → c ≤ j → j ≤ end → is_armed (channel s c).phase ≡ true → pin s j ≡ bit_of (rotated_right (source j) (back_count (channel s c).way (mod_count s c))) 15

module _ (c p0 m0 end : ℕ) (source : ℕ → ℕ) (s : State) (h : Held c s) (d : Drawn c p0 m0 end source s) where
  abbrev t : State
  t = tick s

  shown : GroupShown c s
  unfolding Every
  shown = (d.good.1 c d.small h.up).1

  shown-then-tick : GroupShown c t
  shown-then-tick = shown-tick c s d.good.0 h shown

  span-tick : last t c ≡ last s c
  span-tick = same-last s t (fades-tick s h.sized h.alone.going) c

  in_span : (j : ℕ) → j ≤ end → j ≤ last s c
  in_span j b = subst (λ k. j ≤ k) (sym d.span) b

  in-span-tick : (j : ℕ) → j ≤ end → j ≤ last t c
  in-span-tick j b = subst (λ k. j ≤ k) (sym span-tick) (in_span j b)

  seen-then : (j : ℕ) → c ≤ j → j ≤ end → Seen (channel t c).phase (part c j t)
  unfolding Patterned part channel_control pin_control mod_count
  seen-then j a b = seen-tick c j s d.good.0 h a (in_span j b) (d.pattern j a b) (d.seen j a b)

  put-together : ((j : ℕ) → c ≤ j → j ≤ end → pin_control t j ≡ pin_control s j) → (mod_count t c + p0) % 16 ≡ (m0 + position t c) % 16
      → ((j : ℕ) → c ≤ j → j ≤ end → is_armed (channel t c).phase ≡ true → pin t j ≡ bit_of (rotated_right (source j) (back_count (channel t c).way (mod_count t c))) 15)
      → Drawn c p0 m0 end source t
  unfolding does
  put-together same count before =
      record {
        good = good-tick s d.good;
        ahead = (acts c Ticks s h).ahead;
        small = d.small;
        span = span-tick ∙ d.span;
        pattern = λ j a b. (shown-then-tick.channels j a (in-span-tick j b)).pattern;
        seen = seen-then;
        same = λ j a b. same j a b ∙ d.same j a b;
        count = count;
        before = before;
      }

  by-step : StepIs c s t → Drawn c p0 m0 end source t
  unfolding is_pending unserved pin_after_match part is_armed channel_control
  by-step y =
      put-together (λ j a b. (y.channels j a (in_span j b)).source)
      (count-step y.way (mod_count s c) (mod_count t c) (position s c) (position t c) p0 m0 y.count y.place d.count)
      before
    where
      -- something was to be served
      served : is_pending (unserved (channel s c).phase (clock_of c t)) ≡ true
      served = ⊎_elim (λ q. rw q.0 refl) (λ q. rw q.0 refl) y.from

      before : (j : ℕ) → c ≤ j → j ≤ end → is_armed (channel t c).phase ≡ true → pin t j ≡ bit_of (rotated_right (source j) (back_count (channel t c).way (mod_count t c))) 15
      before j a b g = by (is_past (clock_of c t) y.match.time) refl (y.channels j a (in_span j b)).pin
        where
          by : (b : Bool) → is_past (clock_of c t) y.match.time ≡ b → pin t j ≡ pick b (channel t j).level (pin_after_match c j s t) → pin t j ≡ bit_of (rotated_right (source j) (back_count (channel t c).way (mod_count t c))) 15
          by true e q = absurd (not-both g (ap is_armed (y.match.happens e)))
          by false e q =
              let z : pin_after_match c j s t ≡ bit_of (channel_control s j) 15 = shown-then (channel s c).phase (clock_of c t) (part c j s) (d.seen j a b) served in
              let w : back_count (channel t c).way (mod_count t c) ≡ mod_count s c = ap (λ x. back_count x (mod_count t c)) y.faces ∙ back-moves y.way (mod_count s c) (mod_count t c) (mod-small s c) y.count in
              q ∙ z ∙ ap (λ x. bit_of x 15) (d.pattern j a b ∙ ap (λ x. rotated_right x (mod_count s c)) (d.same j a b) ∙ ap (rotated_right (source j)) (sym w))

  by-still : StillIs c s t → Drawn c p0 m0 end source t
  unfolding mod_count is_armed pin_after_match
  by-still y =
      put-together (λ j a b. (y.channels j a (in_span j b)).source)
      (ap (λ x. (field 4 x 8 + p0) % 16) y.rates ∙ d.count ∙ ap (λ x. (m0 + x) % 16) (sym y.place))
      (λ j a b g. ⊎_elim (λ e. kept j a b (still-armed (channel s c).phase (clock_of c t) (subst (λ x. is_armed x ≡ true) e.0 g))) (λ e. absurd (not-both g (ap is_armed e.0))) y.phase)
    where
      kept : (j : ℕ) → c ≤ j → j ≤ end → (is_armed (channel s c).phase ≡ true) × (acts_at (channel s c).phase (clock_of c t) ≡ false) → pin t j ≡ bit_of (rotated_right (source j) (back_count (channel t c).way (mod_count t c))) 15
      kept j a b g =
          (y.channels j a (in_span j b)).pin ∙ rw g.1 refl ∙ d.before j a b g.0
          ∙ (λ i. bit_of (rotated_right (source j) (back_count (sym y.faces i) (field 4 (sym y.rates i) 8))) 15)

  pub drawn-tick : Drawn c p0 m0 end source t
  drawn-tick = ⊎_elim by-step by-still (tick_is c s h d.good.0)

-- ---- a write

-- what no tick leaves of a group
pub record StillGroup (g k : Group) : Type 0 where
  pub phase : k.phase ≡ g.phase
  pub way : k.motor.way ≡ g.motor.way
  pub place : k.motor.position ≡ g.motor.position

unfoldable is_tick : Event → Bool
is_tick Tick = true
is_tick Target = false
is_tick Other = false

next-still : (x : GroupAct) (g : Group) → is_tick (group-count.event_of x) ≡ false → StillGroup g (next x g)
unfolding next group-count.event_of is_tick aimed altered
next-still (ticks o q) g e = absurd (not-both refl e)
next-still (Aims t) g e = record { phase = refl; way = refl; place = refl }
next-still (Alters l b) g e = record { phase = refl; way = refl; place = refl }

pub write-still : (c a v : ℕ) (s : State) → Held c s → StillGroup (view s c).group (view (does (Writes a v) s) c).group
unfolding event_of is_tick
write-still c a v s h =
    let y : Acts c s (does (Writes a v) s) (event_of c (Writes a v) s) = acts c (Writes a v) s h in
    subst (StillGroup (view s c).group) (sym y.group)
    (next-still y.act (view s c).group (sym (ap is_tick y.event) ∙ pick-cases (λ e. is_tick e ≡ false) (is_target_of c (place a) && is_taken (write_of s a v).answer) (λ b. refl) (λ b. refl)))

write-over : (c a v : ℕ) (s : State) → Held c s → Over c s (does (Writes a v) s)
unfolding does write_of
write-over c a v s h =
    taken-answer (Over c s) s (gate s a v) (over-refl c s) (subst (IfTaken (Over c s) s) (sym (gate-place s a v)) (over-place c (place a) v s (place-good a) h))

pub drawn-write : (c p0 m0 end : ℕ) (source : ℕ → ℕ) (a v : ℕ) (s : State) → v ≤ 0xffff → Held c s → Drawn c p0 m0 end source s → Drawn c p0 m0 end source (does (Writes a v) s)
unfolding view view_in group_in look position mod_count last channel_control pin_control stepping does pin
drawn-write c p0 m0 end source a v s l h d =
    let w : State = does (Writes a v) s in
    let g : StillGroup (view s c).group (view w c).group = write-still c a v s h in
    let o : Over c s w = write-over c a v s h in
    let x : Good w = good-write a v s l d.good in
    let up : stepping w c ≡ true = ap bound g.phase ∙ h.up in
    let inside : (j : ℕ) → j ≤ end → j ≤ last s c = λ j b. subst (λ k. j ≤ k) (sym d.span) b in
    let e : last w c ≡ end = ap (λ z. field 4 z 0) o.fifth ∙ d.span in
    record {
      good = x;
      ahead = (acts c (Writes a v) s h).ahead;
      small = d.small;
      span = e;
      pattern = λ j a b. (o.members j a (inside j b)).control ∙ d.pattern j a b ∙ (λ i. rotated_right (sym (o.members j a (inside j b)).source i) (field 4 (sym o.fourth i) 8));
      seen = λ j a b. x.2.seen c j d.small up a (subst (λ k. j ≤ k) (sym e) b);
      same = λ j a b. (o.members j a (inside j b)).source ∙ d.same j a b;
      count = ap (λ z. (field 4 z 8 + p0) % 16) o.fourth ∙ d.count ∙ ap (λ z. (m0 + z) % 16) (sym g.place);
      before = λ j a b q. ap (λ z. bit_of z j) (writes-leave.pins s _ v) ∙ d.before j a b (ap is_armed (sym g.phase) ∙ q)
          ∙ (λ i. bit_of (rotated_right (source j) (back_count (sym g.way i) (field 4 (sym o.fourth i) 8))) 15);
    }

-- ---- a run

pub drawn-through : (c p0 m0 end : ℕ) (source : ℕ → ℕ) (xs : List Act) (s : State) → Words xs → Running (moments c s xs) → Drawn c p0 m0 end source s → Drawn c p0 m0 end source (through s xs)
unfolding moments Running Words through does
drawn-through c p0 m0 end source [] s w r d = d
drawn-through c p0 m0 end source (Ticks ∷ xs) s w r d =
    drawn-through c p0 m0 end source xs (tick s) w r.1 (drawn-tick c p0 m0 end source s (running-held c s d.ahead r.0) d)
drawn-through c p0 m0 end source (Writes a v ∷ xs) s w r d =
    drawn-through c p0 m0 end source xs (does (Writes a v) s) w.1 r.1 (drawn-write c p0 m0 end source a v s w.0 (running-held c s d.ahead r.0) d)
drawn-through c p0 m0 end source (Nothing ∷ xs) s w r d = drawn-through c p0 m0 end source xs s w r.1 d
