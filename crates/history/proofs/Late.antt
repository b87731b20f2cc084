-- How late each match service was, of every list of calls: `how-late`.
use Prim.Native.Nat.{ℕ, ◌+◌, ◌-◌, ◌%◌, ◌≤◌, ◌<◌}
use native.Mathlib.Omega.{arith}
use mathlib.Core.Bool.{Bool, true, false}
use mathlib.Core.Path.{◌≡◌, refl, ap, sym, subst, ◌∙◌}
use mathlib.Core.Logic.{◌≢◌, ⊎_elim}
use Rattle.words.specs.declared.Timer.{Timer}
use Rattle.words.specs.declared.Timer.TheVariants.{Tcr1, Tcr2}
use Rattle.words.specs.declared.Timers.{Timers}
use Rattle.words.specs.Choice.{pick}
use Rattle.words.specs.Clock.{since, time_by, ticks_a_count, onward}
use Rattle.words.proofs.ChoiceLaws.{not-both}
use Rattle.slots.specs.Claims.{goes_to}
use Rattle.motor.specs.declared.Phase.{Phase}
use Rattle.motor.specs.declared.Phase.TheVariants.{Resting, Requested, Armed, Matched}
use Rattle.motor.specs.Group.{Group, bound, happened, time_set, ticks_since}
use Rattle.motor.specs.Count.{Keeps, Running}
use Rattle.motor.proofs.OneTick.{one-tick}
use Rattle.motor.proofs.Counts.{Timely, on-time, requested-on-time}
use Rattle.unit.specs.declared.Channel.{Channel}
use Rattle.unit.specs.declared.State.{State}
use Rattle.unit.specs.TheUnit.{channel_at, stands_for, reset_state, channel, stepping}
use Rattle.unit.specs.OneTick.{service_in, tick}
use Rattle.unit.specs.Pending.{is_matched}
use Rattle.unit.specs.Answers.{reading_word}
use Rattle.unit.specs.Calls.{write_of}
use Rattle.unit.specs.Readings.{late_word}
use Rattle.unit.proofs.Reset.{Sized}
use Rattle.unit.proofs.Access.{reset-idle}
use Rattle.unit.proofs.Readings.{readings}
use Rattle.unit.proofs.Passing.{time_next, tick-timers, time-passes}
use Rattle.unit.proofs.Late.{late_by, late-tick}
use Rattle.history.specs.Moments.{see}
use Rattle.history.specs.OneStep.{IsServed, clock_of, unserved}
use Rattle.history.specs.Term3.{Run, Cut, at_start, at_count, moments_gone}
use Rattle.history.specs.Late.{ServesMatch, HowLate}
use Rattle.history.proofs.Look.{look}
use Rattle.history.proofs.Own.{view_in, view, group_in}
use Rattle.history.proofs.Held.{Held}
use Rattle.history.proofs.Chain.{ahead, running-held, Chained, chain}
use Rattle.history.proofs.Begin.{Begun, set-going}
use Rattle.history.proofs.WholeSteps.{clock-is, unserved-is, set-stays}
use Rattle.history.proofs.Leaves.{writes-leave}
use Rattle.history.proofs.Always.{state-good}
use Rattle.history.proofs.Term3.{begun, gone-by, count-ahead}

-- what a read gives is what is kept
read_is : (c : ℕ) (s : State) → c < 16 → late_word c s ≡ (channel s c).late
unfolding reading_word channel channel_at stands_for
read_is c s h = ap reading_word (readings.late s c h)

zero-at : (c : ℕ) → (channel reset_state c).late ≡ 0
zero-at c = ap (λ (x : Channel). x.late) (reset-idle c)

-- ---- a tick

clock-next : (c : ℕ) (s : State) → clock_of c (tick s) ≡ time_next s c
clock-next c s = clock-is c (tick s) ∙ ap (λ k. time_by k (tick s).timers) (time-passes.named s c) ∙ ap (time_by (channel s c).timer) (tick-timers s)

-- the phase that the service finds
found : (c : ℕ) (s : State) → unserved (channel s c).phase (clock_of c (tick s)) ≡ happened (time_next s c) (channel s c).phase
found c s = ap (unserved (channel s c).phase) (clock-next c s) ∙ sym (unserved-is (channel s c).phase (time_next s c))

unfoldable captured_in : Phase → ℕ
captured_in Resting = 0
captured_in Requested = 0
captured_in (Armed time) = 0
captured_in (Matched captured time) = captured

matched-is : (p : Phase) → is_matched p ≡ true → p ≡ Matched (captured_in p) (time_set p)
unfolding is_matched captured_in time_set
matched-is Resting e = absurd (not-both e refl)
matched-is Requested e = absurd (not-both e refl)
matched-is (Armed time) e = absurd (not-both e refl)
matched-is (Matched captured time) e = refl

-- the match that it finds is set for the time for which it was
found-match : (c : ℕ) (s : State) → ServesMatch c s
    → happened (time_next s c) (channel s c).phase ≡ Matched (captured_in (happened (time_next s c) (channel s c).phase)) (time_set (channel s c).phase)
unfolding ServesMatch
found-match c s m =
    let p : Phase = happened (time_next s c) (channel s c).phase in
    matched-is p (ap is_matched (sym (found c s)) ∙ m.1) ∙ ap (Matched (captured_in p)) (set-stays (channel s c).phase (time_next s c))

no-match : (p : Phase) (now n : ℕ) → is_matched p ≡ false → late_by p now n ≡ n
unfolding is_matched late_by
no-match Resting now n e = refl
no-match Requested now n e = refl
no-match (Armed time) now n e = refl
no-match (Matched captured time) now n e = absurd (not-both refl e)

module _ (c : ℕ) (s : State) (z : Sized s) (h : c < 16) where
  abbrev phase : Phase
  phase = happened (time_next s c) (channel s c).phase

  number : late_word c (tick s) ≡ pick (goes_to c (service_in s)) (late_by phase (time_next s c) (channel s c).late) (channel s c).late
  number = read_is c (tick s) h ∙ late-tick c h s z

  told-by : ServesMatch c s → late_word c (tick s) ≡ since (time_next s c) (time_set (channel s c).phase)
  unfolding ServesMatch IsServed late_by
  told-by m =
      number ∙ ap (λ b. pick b (late_by phase (time_next s c) (channel s c).late) (channel s c).late) m.0
      ∙ ap (λ p. late_by p (time_next s c) (channel s c).late) (found-match c s m)

  kept_by : (ServesMatch c s → ⊥) → late_word c (tick s) ≡ late_word c s
  unfolding ServesMatch IsServed
  kept_by n = number ∙ by (goes_to c (service_in s)) refl (is_matched phase) refl ∙ sym (read_is c s h)
    where
      by : (b : Bool) → goes_to c (service_in s) ≡ b → (d : Bool) → is_matched phase ≡ d
          → pick b (late_by phase (time_next s c) (channel s c).late) (channel s c).late ≡ (channel s c).late
      by true g true d = absurd (n (g, ap is_matched (found c s) ∙ d))
      by true g false d = no-match phase (time_next s c) (channel s c).late d
      by false g d e = refl

told : (c : ℕ) (s : State) → Sized s → c < 16 → ServesMatch c s → late_word c (tick s) ≡ (clock_of c (tick s) + (65536 - time_set (channel s c).phase % 65536)) % 65536
unfolding since
told c s z h m = told-by c s z h m ∙ ap (λ k. (k + (65536 - time_set (channel s c).phase % 65536)) % 65536) (sym (clock-next c s))

-- ---- at a level that is kept

in-counts : (k : Timer) (t : Timers) (time : ℕ) → ticks_since k t time ≤ 111 → (k ≡ Tcr1 → since (time_by k t) time ≤ 111) × (k ≡ Tcr2 → since (time_by k t) time ≤ 13)
unfolding ticks_since ticks_a_count
in-counts Tcr1 t time h = (λ e. omega arith, λ e. absurd (let z : ◌≡◌ {A = ℕ} 0 1 = cc in omega arith))
in-counts Tcr2 t time h = (λ e. omega arith, λ e. omega arith)

module _ (r : Run) (k : Cut r) (l : ℕ) (n : l ≢ 0) (keeps : Keeps l (moments_gone r)) (m : ServesMatch r.c (at_count r)) where
  abbrev s : State
  s = at_count r

  abbrev c : ℕ
  c = r.c

  held : Held c s
  unfolding see
  held = running-held c s (count-ahead r k) (gone-by r k).1

  abbrev start : Group
  start = (view (at_start r) c).group

  begins : Begun c (at_start r)
  begins = begun r k

  chained : Chained c (at_start r) r.gone
  chained = chain c r.gone (at_start r) (ahead c (at_start r) begins.held) (gone-by r k).0

  timely : Timely l (view s c).group
  timely =
      subst (Timely l) (sym chained.end)
      (on-time l n start chained.acts begins.held.seen.sound (requested-on-time l start (set-going c (at_start r) begins)) (subst Running chained.same (gone-by r k).0) chained.fair (subst (Keeps l) chained.same keeps))

  awake : (view s c).group.phase ≡ Resting → ⊥
  unfolding view view_in group_in look bound stepping
  awake e = not-both held.up (ap bound e)

  in-ticks : ticks_since (channel s c).timer (onward 1 s.timers) (time_set (channel s c).phase) ≤ 111
  unfolding view view_in group_in look
  in-ticks = ⊎_elim (λ e. absurd (awake e)) (λ u. one-tick.late l (view s c).group held.seen.sound u _ _ (found-match c s m)) timely

  small : c < 16
  small = omega (arith, held.seen.within)

  bounds : ((channel s c).timer ≡ Tcr1 → late_word c (tick s) ≤ 111) × ((channel s c).timer ≡ Tcr2 → late_word c (tick s) ≤ 13)
  bounds =
      let b = in-counts (channel s c).timer (onward 1 s.timers) (time_set (channel s c).phase) in-ticks in
      rw (told-by c s held.sized small m) b

pub how-late : HowLate
how-late =
    record {
      reset = λ c h. read_is c reset_state h ∙ zero-at c;
      told = λ calls s x c h m. told c s (state-good calls s x).0.sized h m;
      kept = λ calls s x c h n. kept_by c s (state-good calls s x).0.sized h n;
      written = λ s a v c h. read_is c (write_of s a v).state h ∙ writes-leave.late s a v c ∙ sym (read_is c s h);
      fast = λ r k l n keeps m. (bounds r k l n keeps m).0;
      slow = λ r k l n keeps m. (bounds r k l n keeps m).1;
    }
