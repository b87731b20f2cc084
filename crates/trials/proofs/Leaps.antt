-- The runs of the trials in leaps: a run looks at each of its ticks, and one in which only the timers move shows nothing and is left out.
use Prim.Native.Nat.{ℕ, zero, suc, ◌+◌, ◌-◌, ◌≤◌, ◌<◌, min}
use native.Mathlib.Nat.{min-le_left, min-le_right}
use native.Mathlib.Omega.{arith}
use mathlib.Core.Bool.{Bool, true, false, ◌&&◌}
use mathlib.Core.List.{List, [], ◌∷◌}
use mathlib.Core.Path.{◌≡◌, refl, sym, ap, ◌∙◌}
use lib.Dec.{ltb, eqb}
use borrow.Author.Tests.{ltb-true, eq-eqb}
use Rattle.words.specs.Choice.{pick}
use Rattle.slots.specs.Slots.{idled}
use Rattle.words.specs.Clock.{onward}
use Rattle.words.proofs.ChoiceLaws.{not-both}
use Rattle.unit.specs.declared.State.{State}
use Rattle.unit.specs.TheUnit.{with_timers, with_slots, channel, word, status, position, next_rate, last, any, stepping, reaches, is_bound}
use Rattle.unit.specs.OneTick.{tick, after_ticks}
use Rattle.unit.specs.Quiet.{quiet_below}
use Rattle.unit.specs.Calls.{write_of}
use Rattle.history.proofs.Calls.{tick-last}
use Rattle.unit.proofs.Quiet.{quiet-ticks}
use Rattle.trials.specs.Trials.{goes, step_ticks, ticked, positions, Trial, Period, Request, Steps, Back, Level, Due, same_list, holds}

-- ---- a run in leaps

-- how many of n ticks may be left out: none where the law of quiet ticks does not speak of the state, or the motor rests
unfoldable pub quiet_of : ℕ → State → ℕ
quiet_of n s = pick (is_bound s 4 && (ltb s.timers.tcr1 65536 && ltb s.timers.tcr2 65536)) (min (quiet_below 16 s) n) 0

-- A run looks at its ticks one by one: tick k leads from s to t, and the ticks after it give `rest`.
-- `moved` and `stopped` say what the run gives where the motor has moved, and where it is no longer under way.
unfoldable pub look : {A : Type 0} → (ℕ → State → A → A) → (ℕ → State → A → A) → ℕ → State → State → A → A
look moved stopped k s t rest =
    elim (is_bound t 4) [
      | true ↦ elim (eqb (position s 4) (position t 4)) [ true ↦ rest | false ↦ moved k t rest ]
      | false ↦ stopped k t rest
    ]

-- only the timers and the slot have gone on, by q ticks
unfoldable pub onward_by : ℕ → State → State
onward_by q s = with_slots (with_timers s (onward q s.timers)) (idled q s.slots)

-- the next of n + 1 ticks is tick k: q of them are left out, or, where q is 0, one is looked at; `go` does the rest
abbrev go_on : {A : Type 0} → (ℕ → State → State → A → A) → (ℕ → ℕ → State → A) → ℕ → ℕ → State → ℕ → A
go_on eye go n k s zero = let t = tick s in eye k s t (go n (suc k) t)
go_on eye go n k s (suc q) = go (n - q) (k + suc q) (onward_by (suc q) s)

-- a run in at most f leaps and looks, and then tick by tick
unfoldable pub leapt : {A : Type 0} → (ℕ → ℕ → State → A) → (ℕ → State → State → A → A) → ℕ → ℕ → ℕ → State → A
leapt run eye zero n k s = run n k s
leapt run eye (suc f) zero k s = run zero k s
leapt run eye (suc f) (suc n) k s = go_on eye (leapt run eye f) n k s (quiet_of (suc n) s)

-- ---- leaps make the run

-- the timers are none of what a look looks at
bound-time : (s : State) (q : ℕ) → is_bound (onward_by q s) 4 ≡ is_bound s 4
unfolding is_bound stepping reaches any channel last word with_timers with_slots onward_by
bound-time s q = refl

position-time : (s : State) (q : ℕ) → position (onward_by q s) 4 ≡ position s 4
unfolding position word with_timers with_slots onward_by
position-time s q = refl

quiet_by : (s : State) (q : ℕ) → s.timers.tcr1 < 65536 → s.timers.tcr2 < 65536 → suc q ≤ quiet_below 16 s → after_ticks (suc q) s ≡ onward_by (suc q) s
unfolding onward_by
quiet_by s q h g l = quiet-ticks s (suc q) h g (omega arith) l

quiet-position : (s : State) (q : ℕ) → s.timers.tcr1 < 65536 → s.timers.tcr2 < 65536 → q ≤ quiet_below 16 s → position (after_ticks q s) 4 ≡ position s 4
unfolding after_ticks
quiet-position s zero h g l = refl
quiet-position s (suc q) h g l = ap (λ (t : State). position t 4) (quiet_by s q h g l) ∙ position-time s (suc q)

-- where some may be left out, all tests hold
allowed : (a b c : Bool) (x q : ℕ) → suc q ≤ pick (a && (b && c)) x 0 → (a ≡ true) × (b ≡ true) × (c ≡ true) × (suc q ≤ x)
allowed true true true x q h = (refl, refl, refl, h)
allowed true true false x q h = absurd (omega (arith, h))
allowed true false c x q h = absurd (omega (arith, h))
allowed false b c x q h = absurd (omega (arith, h))

both : {A : Type 0} (b c : Bool) (x y z : A) → b ≡ true → c ≡ true → elim b [ true ↦ elim c [ true ↦ x | false ↦ y ] | false ↦ z ] ≡ x
both true true x y z e f = refl
both true false x y z e f = absurd (not-both f refl)
both false c x y z e f = absurd (not-both e refl)

-- a tick that leaves the motor under way where it was shows nothing
passes : {A : Type 0} (moved stopped : ℕ → State → A → A) (k : ℕ) (s t : State) (rest : A) → is_bound t 4 ≡ true → position s 4 ≡ position t 4 → look moved stopped k s t rest ≡ rest
unfolding look
passes moved stopped k s t rest b e =
    both (is_bound t 4) (eqb (position s 4) (position t 4)) rest (moved k t rest) (stopped k t rest) b (eq-eqb (position s 4) (position t 4) e)

-- a run that looks so at its first tick, and goes on from there
module _ {A : Type 0} (run : ℕ → ℕ → State → A) (moved stopped : ℕ → State → A → A)
    (begins : (n k : ℕ) (s : State) → run (suc n) k s ≡ look moved stopped k s (tick s) (run n (suc k) (tick s))) where
  -- quiet ticks may be left out of it
  skips : (q n m k : ℕ) (s : State) → n ≡ q + m → is_bound s 4 ≡ true → s.timers.tcr1 < 65536 → s.timers.tcr2 < 65536 → q ≤ quiet_below 16 s → run n k s ≡ run m (k + q) (after_ticks q s)
  unfolding after_ticks
  skips zero n m k s e b h i l =
      let d : n ≡ m = omega (arith, e) in
      let j : k + 0 ≡ k = omega arith in
      rw (d, j)
  skips (suc q) n m k s e b h g l =
      let u = after_ticks q s in
      let behind : tick u ≡ onward_by (suc q) s = quiet_by s q h g l in
      let bound : is_bound (tick u) 4 ≡ true = ap (λ (t : State). is_bound t 4) behind ∙ bound-time s (suc q) ∙ b in
      let there : position u 4 ≡ position (tick u) 4 = quiet-position s q h g (omega (arith, l)) ∙ sym (ap (λ (t : State). position t 4) behind ∙ position-time s (suc q)) in
      let i : suc (k + q) ≡ k + suc q = omega arith in
      skips q n (suc m) k s (omega (arith, e)) b h g (omega (arith, l)) ∙ begins m (k + q) u
      ∙ passes moved stopped (k + q) u (tick u) (run m (suc (k + q)) (tick u)) bound there
      ∙ ap (λ (j : ℕ). run m j (tick u)) i

  next-is : (go : ℕ → ℕ → State → A) (n k : ℕ) (s : State) (q : ℕ) → q ≤ quiet_of (suc n) s → ((m j : ℕ) (t : State) → go m j t ≡ run m j t) → go_on (look moved stopped) go n k s q ≡ run (suc n) k s
  unfolding quiet_of
  next-is go n k s zero l g = ap (λ (r : A). look moved stopped k s (tick s) r) (g n (suc k) (tick s)) ∙ sym (begins n k s)
  next-is go n k s (suc q) l g =
      let a = allowed (is_bound s 4) (ltb s.timers.tcr1 65536) (ltb s.timers.tcr2 65536) (min (quiet_below 16 s) (suc n)) q l in
      let h : s.timers.tcr1 < 65536 = ltb-true s.timers.tcr1 65536 a.1 in
      let i : s.timers.tcr2 < 65536 = ltb-true s.timers.tcr2 65536 a.2 in
      let quiet : suc q ≤ quiet_below 16 s = omega (arith, a.3, min-le_left (quiet_below 16 s) (suc n)) in
      let fits : suc n ≡ suc q + (n - q) = omega (arith, a.3, min-le_right (quiet_below 16 s) (suc n)) in
      g (n - q) (k + suc q) (onward_by (suc q) s)
      ∙ sym (skips (suc q) (suc n) (n - q) k s fits a.0 h i quiet ∙ ap (λ (t : State). run (n - q) (k + suc q) t) (quiet_by s q h i quiet))

  pub leapt-is : (f n k : ℕ) (s : State) → leapt run (look moved stopped) f n k s ≡ run n k s
  unfolding leapt
  leapt-is zero n k s = refl
  leapt-is (suc f) zero k s = refl
  leapt-is (suc f) (suc n) k s = next-is (leapt run (look moved stopped) f) n k s (quiet_of (suc n) s) (omega arith) (leapt-is f)

-- ---- the runs of the trials; forty leaps and looks are enough for each

abbrev step_moved : ℕ → State → List ℕ → List ℕ
step_moved k t rest = k ∷ rest

abbrev step_stopped : ℕ → State → List ℕ → List ℕ
step_stopped k t rest = elim (status t 4) [ true ↦ k ∷ [] | false ↦ [] ]

abbrev leapt_steps : ℕ → ℕ → State → List ℕ
leapt_steps = leapt step_ticks (look step_moved step_stopped) 40

step-begins : (n k : ℕ) (s : State) → step_ticks (suc n) k s ≡ look step_moved step_stopped k s (tick s) (step_ticks n (suc k) (tick s))
unfolding step_ticks look
step-begins n k s = refl

steps-are : (n k : ℕ) (s : State) → leapt_steps n k s ≡ step_ticks n k s
steps-are = leapt-is step_ticks step_moved step_stopped step-begins 40

abbrev position_moved : ℕ → State → List ℕ → List ℕ
position_moved k t rest = position t 4 ∷ rest

abbrev position_stopped : ℕ → State → List ℕ → List ℕ
position_stopped k t rest = k ∷ []

abbrev leapt_positions : ℕ → ℕ → State → List ℕ
leapt_positions = leapt positions (look position_moved position_stopped) 40

position-begins : (n k : ℕ) (s : State) → positions (suc n) k s ≡ look position_moved position_stopped k s (tick s) (positions n (suc k) (tick s))
unfolding positions look
position-begins n k s = refl

positions-are : (n k : ℕ) (s : State) → leapt_positions n k s ≡ positions n k s
positions-are = leapt-is positions position_moved position_stopped position-begins 40

-- where only the last state counts, a look gives nothing but what follows
abbrev ticked_from : ℕ → ℕ → State → State
ticked_from n k s = ticked n s

abbrev follows : ℕ → State → State → State
follows k t rest = rest

abbrev pub leapt_ticked : ℕ → State → State
leapt_ticked n = leapt ticked_from (look follows follows) 40 n 1

either : (b c : Bool) (x : State) → ◌≡◌ {A = State} (elim b [ true ↦ x | false ↦ x ]) (elim b [ true ↦ elim c [ true ↦ x | false ↦ x ] | false ↦ x ])
either true true x = refl
either true false x = refl
either false c x = refl

tick-begins : (n k : ℕ) (s : State) → ticked_from (suc n) k s ≡ look follows follows k s (tick s) (ticked_from n (suc k) (tick s))
unfolding ticked look
tick-begins n k s = either (is_bound (tick s) 4) (eqb (position s 4) (position (tick s) 4)) (ticked n (tick s))

pub ticked-is : (n : ℕ) (s : State) → leapt_ticked n s ≡ ticked n s
ticked-is n s = leapt-is ticked_from follows follows tick-begins 40 n 1 s

-- ticks from the front are ticks from the end
pub ticked-after : (n : ℕ) (s : State) → ticked n s ≡ after_ticks n s
unfolding ticked after_ticks
ticked-after zero s = refl
ticked-after (suc n) s = looked (is_bound (tick s) 4) ∙ ticked-after n (tick s) ∙ tick-last n s
  where
    looked : (b : Bool) → ◌≡◌ {A = State} (elim b [ true ↦ ticked n (tick s) | false ↦ ticked n (tick s) ]) (ticked n (tick s))
    looked true = refl
    looked false = refl

-- ---- the rows

-- the test of a row, its runs in leaps
unfoldable pub holds_leapt : Trial → Bool
holds_leapt (Period c0 c1 r p) = holds (Period c0 c1 r p)
holds_leapt (Request n c0 c1 k) = holds (Request n c0 c1 k)
holds_leapt (Steps here there l) = same_list (leapt_steps 4000 1 (goes here there)) l
holds_leapt (Back l) =
    let s = leapt_ticked 781 (goes 0 10) in
    eqb (position s 4) 3 && (eqb (next_rate s 4) 3 && same_list (leapt_positions 4000 782 (write_of s 0xf46 1).state) l)
holds_leapt (Level w m b) = holds (Level w m b)
holds_leapt (Due now time b) = holds (Due now time b)

pub leapt-holds : (t : Trial) → holds_leapt t ≡ holds t
unfolding holds_leapt holds
leapt-holds (Period c0 c1 r p) = refl
leapt-holds (Request n c0 c1 k) = refl
leapt-holds (Steps here there l) = rw (steps-are 4000 1 (goes here there))
leapt-holds (Back l) = rw (ticked-is 781 (goes 0 10), positions-are 4000 782)
leapt-holds (Level w m b) = refl
leapt-holds (Due now time b) = refl
