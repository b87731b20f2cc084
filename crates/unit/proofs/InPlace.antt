-- The numbers that are kept of a channel, changed in place: a change of what they stand for is one of a few bits and times.
use Prim.Native.Nat.{ℕ, ◌+◌, ◌*◌, ◌^◌, ◌≤◌, ◌<◌}
use native.Mathlib.Nat.{zero-add}
use native.Mathlib.Omega.{arith}
use mathlib.Core.Bool.{Bool, true, false}
use mathlib.Core.Path.{◌≡◌, refl, sym, ap, ◌∙◌}
use mathlib.Core.Logic.{◌≢◌}
use lib.Dec.{eqb}
use borrow.Author.Tests.{eqb-true, eqb-false}
use Rattle.words.specs.declared.Timer.{Timer}
use Rattle.words.specs.Choice.{pick}
use Rattle.words.specs.Field.{field, with_field, bit_of, bit_value}
use Rattle.words.proofs.FieldLaws.{field_lt, field-split, field_fits, set-again, set-inside}
use Rattle.motor.specs.declared.Way.{Way}
use Rattle.motor.specs.declared.Phase.{Phase}
use Rattle.motor.specs.declared.Phase.TheVariants.{Resting, Requested, Armed, Matched}
use Rattle.unit.specs.declared.Latches.{Latches}
use Rattle.unit.specs.declared.Channel.{Channel}
use Rattle.unit.specs.TheUnit.{way_number, way_from, phase_number, phase_from, timer_number, timer_from, flags_of, stands_for, time_after, set_after, latched}
use Rattle.unit.proofs.Access.{flags-apart, flags-small, bit-small, way-small, phase-small, timer-small}

-- ---- the seven bits as they stand

bit-number : (n : ℕ) → n < 2 → bit_value (eqb n 1) ≡ n
bit-number n h = by (eqb n 1) refl
  where
    by : (b : Bool) → eqb n 1 ≡ b → bit_value b ≡ n
    by true e = sym (eqb-true n 1 e)
    by false e = let x : n ≢ 1 = eqb-false n 1 e in omega arith

way-number : (b : Bool) → way_number (way_from b) ≡ bit_value b
way-number true = refl
way-number false = refl

timer-number : (b : Bool) → timer_number (timer_from b) ≡ bit_value b
timer-number true = refl
timer-number false = refl

phase-number : (n time set : ℕ) → n < 4 → phase_number (phase_from n time set) ≡ n
unfolding phase_from
phase-number n time set h = by (eqb n 1) refl (eqb n 2) refl (eqb n 3) refl
  where
    by : (a : Bool) → eqb n 1 ≡ a → (b : Bool) → eqb n 2 ≡ b → (c : Bool) → eqb n 3 ≡ c
        → phase_number (pick a Requested (pick b (Armed time) (pick c (Matched time set) Resting))) ≡ n
    by true p b q c r = sym (eqb-true n 1 p)
    by false p true q c r = sym (eqb-true n 2 q)
    by false p false q true r = sym (eqb-true n 3 r)
    by false p false q false r =
        let x : n ≢ 1 = eqb-false n 1 p in
        let y : n ≢ 2 = eqb-false n 2 q in
        let z : n ≢ 3 = eqb-false n 3 r in
        omega arith

-- a word below bit 7, part by part
seven-bits : (w : ℕ) → field 1 w 0 + 2 * field 1 w 1 + 4 * field 1 w 2 + 8 * field 2 w 3 + 32 * field 1 w 5 + 64 * field 1 w 6 ≡ field 7 w 0
seven-bits w =
    omega (arith, field-split 6 1 w 0, field-split 5 1 w 1, field-split 4 1 w 2, field-split 2 2 w 3, field-split 1 1 w 5)

flags-are : (k : Latches) → flags_of (stands_for k) ≡ field 7 k.flags 0
unfolding flags_of stands_for bit_of
flags-are k =
    let bit : (i : ℕ) → bit_value (eqb (field 1 k.flags i) 1) ≡ field 1 k.flags i = λ i. bit-number (field 1 k.flags i) (field_lt 1 k.flags i) in
    rw (way-number (eqb (field 1 k.flags 2) 1), timer-number (eqb (field 1 k.flags 5) 1), timer-number (eqb (field 1 k.flags 6) 1), bit 0, bit 1, bit 2, bit 5, bit 6, phase-number (field 2 k.flags 3) k.time k.set (field_lt 2 k.flags 3)) (seven-bits k.flags)

-- ---- one part of the flags, as a field

abbrev Small : (a b c d e f : ℕ) → Type 0
Small a b c d e f = (a ≤ 1) × (b ≤ 1) × (c ≤ 1) × (d ≤ 3) × (e ≤ 1) × (f ≤ 1)

abbrev joined : (a b c d e f : ℕ) → ℕ
joined a b c d e f = a + 2 * b + 4 * c + 8 * d + 32 * e + 64 * f

join-initialised : (n a b c d e f : ℕ) → n ≤ 1 → Small a b c d e f → joined n b c d e f ≡ with_field 1 (joined a b c d e f) 0 n
unfolding with_field
join-initialised n a b c d e f l h = rw (flags-apart a b c d e f h).0 (omega arith)

join-level : (n a b c d e f : ℕ) → n ≤ 1 → Small a b c d e f → joined a n c d e f ≡ with_field 1 (joined a b c d e f) 1 n
unfolding with_field
join-level n a b c d e f l h = rw (flags-apart a b c d e f h).1 (omega arith)

join-way : (n a b c d e f : ℕ) → n ≤ 1 → Small a b c d e f → joined a b n d e f ≡ with_field 1 (joined a b c d e f) 2 n
unfolding with_field
join-way n a b c d e f l h = rw (flags-apart a b c d e f h).2 (omega arith)

join-phase : (n a b c d e f : ℕ) → n ≤ 3 → Small a b c d e f → joined a b c n e f ≡ with_field 2 (joined a b c d e f) 3 n
unfolding with_field
join-phase n a b c d e f l h = rw (flags-apart a b c d e f h).3 (omega arith)

join-kind : (n a b c d e f : ℕ) → n ≤ 1 → Small a b c d e f → joined a b c d n f ≡ with_field 1 (joined a b c d e f) 5 n
unfolding with_field
join-kind n a b c d e f l h = rw (flags-apart a b c d e f h).4 (omega arith)

join-timer : (n a b c d e f : ℕ) → n ≤ 1 → Small a b c d e f → joined a b c d e n ≡ with_field 1 (joined a b c d e f) 6 n
unfolding with_field
join-timer n a b c d e f l h = rw (flags-apart a b c d e f h).5 (omega arith)

-- ---- a change inside the seven bits, as one of the word

inside : (w v width place n : ℕ) → place + width ≤ 7 → v < 2 ^ 7 → with_field 7 w 0 (with_field width v place n) ≡ with_field width (with_field 7 w 0 v) place n
inside w v width place n h l =
    set-inside 7 w 0 v width place n h l ∙ ap (λ (i : ℕ). with_field width (with_field 7 w 0 v) i n) (zero-add place)

one-part : (w width place n : ℕ) → place + width ≤ 7 → with_field 7 w 0 (with_field width (field 7 w 0) place n) ≡ with_field width w place n
one-part w width place n h =
    inside w (field 7 w 0) width place n h (field_lt 7 w 0) ∙ ap (λ (x : ℕ). with_field width x place n) (set-again 7 w 0)

two-parts : (w width place n wide there m : ℕ) → place + width ≤ 7 → there + wide ≤ 7
    → with_field 7 w 0 (with_field wide (with_field width (field 7 w 0) place n) there m) ≡ with_field wide (with_field width w place n) there m
two-parts w width place n wide there m h k =
    inside w (with_field width (field 7 w 0) place n) wide there m k (field_fits width (field 7 w 0) place n 7 h (field_lt 7 w 0))
    ∙ ap (λ (x : ℕ). with_field wide x there m) (one-part w width place n h)

-- ---- the times of a phase that is kept

phase-times : (n time set : ℕ) → (time_after (phase_from n time set) time ≡ time) × (set_after (phase_from n time set) set ≡ set)
unfolding phase_from time_after set_after
phase-times n time set = by (eqb n 1) (eqb n 2) (eqb n 3)
  where
    by : (a b c : Bool) → let p : Phase = pick a Requested (pick b (Armed time) (pick c (Matched time set) Resting)) in (time_after p time ≡ time) × (set_after p set ≡ set)
    by true b c = (refl, refl)
    by false true c = (refl, refl)
    by false false true = (refl, refl)
    by false false false = (refl, refl)

times-stay : (k : Latches) → (time_after (stands_for k).phase k.time ≡ k.time) × (set_after (stands_for k).phase k.set ≡ k.set)
unfolding stands_for
times-stay k = phase-times (field 2 k.flags 3) k.time k.set

-- ---- changes

-- what is kept after it is made to stand for x, number by number
made : (k : Latches) (x : Channel) (flags time late set : ℕ) → with_field 7 k.flags 0 (flags_of x) ≡ flags → time_after x.phase k.time ≡ time → x.late ≡ late → set_after x.phase k.set ≡ set
    → latched k x ≡ record { flags = flags; time = time; late = late; set = set }
unfolding latched
made k x flags time late set a b c d = λ i. record { flags = a i; time = b i; late = c i; set = d i }

late_is : (k : Latches) → (stands_for k).late ≡ k.late
unfolding stands_for
late_is k = refl

module _ (k : Latches) where
  abbrev x : Channel
  x = stands_for k

  abbrev a : ℕ
  a = bit_value x.initialised

  abbrev b : ℕ
  b = bit_value x.level

  abbrev c : ℕ
  c = way_number x.way

  abbrev d : ℕ
  d = phase_number x.phase

  abbrev e : ℕ
  e = timer_number x.kind

  abbrev f : ℕ
  f = timer_number x.timer

  parts_are : joined a b c d e f ≡ field 7 k.flags 0
  unfolding flags_of
  parts_are = flags-are k

  flags-one : (width place n v : ℕ) → place + width ≤ 7 → v ≡ with_field width (joined a b c d e f) place n → with_field 7 k.flags 0 v ≡ with_field width k.flags place n
  flags-one width place n v h q =
      ap (with_field 7 k.flags 0) (q ∙ ap (λ (y : ℕ). with_field width y place n) parts_are) ∙ one-part k.flags width place n h

  flags-two : (width place n wide there m v : ℕ) → place + width ≤ 7 → there + wide ≤ 7 → v ≡ with_field wide (with_field width (joined a b c d e f) place n) there m
      → with_field 7 k.flags 0 v ≡ with_field wide (with_field width k.flags place n) there m
  flags-two width place n wide there m v h l q =
      ap (with_field 7 k.flags 0) (q ∙ ap (λ (y : ℕ). with_field wide (with_field width y place n) there m) parts_are) ∙ two-parts k.flags width place n wide there m h l

  for-initialised : (n : ℕ) → n ≤ 1 → with_field 7 k.flags 0 (joined n b c d e f) ≡ with_field 1 k.flags 0 n
  for-initialised n l = flags-one 1 0 n _ (omega arith) (join-initialised n a b c d e f l (flags-small x))

  for-level : (n : ℕ) → n ≤ 1 → with_field 7 k.flags 0 (joined a n c d e f) ≡ with_field 1 k.flags 1 n
  for-level n l = flags-one 1 1 n _ (omega arith) (join-level n a b c d e f l (flags-small x))

  for-phase : (n : ℕ) → n ≤ 3 → with_field 7 k.flags 0 (joined a b c n e f) ≡ with_field 2 k.flags 3 n
  for-phase n l = flags-one 2 3 n _ (omega arith) (join-phase n a b c d e f l (flags-small x))

  for-set-up : (n m : ℕ) → n ≤ 1 → m ≤ 1 → with_field 7 k.flags 0 (joined n b c d m f) ≡ with_field 1 (with_field 1 k.flags 0 n) 5 m
  for-set-up n m l h =
      let s = flags-small x in
      flags-two 1 0 n 1 5 m _ (omega arith) (omega arith)
      (join-kind m n b c d e f h (l, s.1, s.2, s.3, s.4, s.5) ∙ ap (λ (y : ℕ). with_field 1 y 5 m) (join-initialised n a b c d e f l s))

  for-way : (n m : ℕ) → n ≤ 1 → m ≤ 3 → with_field 7 k.flags 0 (joined a b n m e f) ≡ with_field 2 (with_field 1 k.flags 2 n) 3 m
  for-way n m l h =
      let s = flags-small x in
      flags-two 1 2 n 2 3 m _ (omega arith) (omega arith)
      (join-phase m a b n d e f h (s.0, s.1, l, s.3, s.4, s.5) ∙ ap (λ (y : ℕ). with_field 2 y 3 m) (join-way n a b c d e f l s))

  for-binding : (n m : ℕ) → n ≤ 1 → m ≤ 3 → with_field 7 k.flags 0 (joined a b c m e n) ≡ with_field 2 (with_field 1 k.flags 6 n) 3 m
  for-binding n m l h =
      let s = flags-small x in
      flags-two 1 6 n 2 3 m _ (omega arith) (omega arith)
      (join-phase m a b c d e n h (s.0, s.1, s.2, s.3, s.4, l) ∙ ap (λ (y : ℕ). with_field 2 y 3 m) (join-timer n a b c d e f l s))

  flags-stay : with_field 7 k.flags 0 (flags_of x) ≡ k.flags
  flags-stay = ap (with_field 7 k.flags 0) (flags-are k) ∙ set-again 7 k.flags 0

-- the kind is bit 5
pub kind-number : (k : Latches) → timer_number (stands_for k).kind ≡ bit_value (bit_of k.flags 5)
unfolding stands_for
kind-number k = timer-number (bit_of k.flags 5)

-- a level is prepared
pub level-kept : (k : Latches) (on : Bool)
    → let x : Channel = stands_for k in
    latched k record { initialised = x.initialised; kind = x.kind; level = on; timer = x.timer; way = x.way; phase = x.phase; late = x.late }
    ≡ record { flags = with_field 1 k.flags 1 (bit_value on); time = k.time; late = k.late; set = k.set }
unfolding flags_of
level-kept k on = made k _ _ _ _ _ (for-level k (bit_value on) (bit-small on)) (times-stay k).0 (late_is k) (times-stay k).1

-- the channel is initialised, or no longer
pub initialised-kept : (k : Latches) (on : Bool)
    → let x : Channel = stands_for k in
    latched k record { initialised = on; kind = x.kind; level = x.level; timer = x.timer; way = x.way; phase = x.phase; late = x.late }
    ≡ record { flags = with_field 1 k.flags 0 (bit_value on); time = k.time; late = k.late; set = k.set }
unfolding flags_of
initialised-kept k on = made k _ _ _ _ _ (for-initialised k (bit_value on) (bit-small on)) (times-stay k).0 (late_is k) (times-stay k).1

-- it is initialised, and of this kind
pub set-up-kept : (k : Latches) (t : Timer)
    → let x : Channel = stands_for k in
    latched k record { initialised = true; kind = t; level = x.level; timer = x.timer; way = x.way; phase = x.phase; late = x.late }
    ≡ record { flags = with_field 1 (with_field 1 k.flags 0 1) 5 (timer_number t); time = k.time; late = k.late; set = k.set }
unfolding flags_of
set-up-kept k t = made k _ _ _ _ _ (for-set-up k 1 (timer_number t) (omega arith) (timer-small t)) (times-stay k).0 (late_is k) (times-stay k).1

-- a request binds it, by the timer of its kind
pub binding-kept : (k : Latches)
    → let x : Channel = stands_for k in
    latched k record { initialised = x.initialised; kind = x.kind; level = x.level; timer = x.kind; way = x.way; phase = Requested; late = x.late }
    ≡ record { flags = with_field 2 (with_field 1 k.flags 6 (bit_value (bit_of k.flags 5))) 3 1; time = k.time; late = k.late; set = k.set }
unfolding flags_of time_after set_after
binding-kept k =
    made k _ _ _ _ _
    (for-binding k (timer_number (stands_for k).kind) 1 (timer-small (stands_for k).kind) (omega arith) ∙ ap (λ (n : ℕ). with_field 2 (with_field 1 k.flags 6 n) 3 1) (kind-number k))
    refl (late_is k) refl

-- its group stands elsewhere
pub phase-kept : (k : Latches) (p : Phase)
    → let x : Channel = stands_for k in
    latched k record { initialised = x.initialised; kind = x.kind; level = x.level; timer = x.timer; way = x.way; phase = p; late = x.late }
    ≡ record { flags = with_field 2 k.flags 3 (phase_number p); time = time_after p k.time; late = k.late; set = set_after p k.set }
unfolding flags_of
phase-kept k p = made k _ _ _ _ _ (for-phase k (phase_number p) (phase-small p)) refl (late_is k) refl

-- and has gone that way
pub way-kept : (k : Latches) (w : Way) (p : Phase)
    → let x : Channel = stands_for k in
    latched k record { initialised = x.initialised; kind = x.kind; level = x.level; timer = x.timer; way = w; phase = p; late = x.late }
    ≡ record { flags = with_field 2 (with_field 1 k.flags 2 (way_number w)) 3 (phase_number p); time = time_after p k.time; late = k.late; set = set_after p k.set }
unfolding flags_of
way-kept k w p = made k _ _ _ _ _ (for-way k (way_number w) (phase_number p) (way-small w) (phase-small p)) refl (late_is k) refl

-- it comes to rest
pub rest-kept : (k : Latches)
    → let x : Channel = stands_for k in
    latched k record { initialised = x.initialised; kind = x.kind; level = x.level; timer = x.timer; way = x.way; phase = Resting; late = x.late }
    ≡ record { flags = with_field 2 k.flags 3 0; time = k.time; late = k.late; set = k.set }
unfolding time_after set_after
rest-kept k = phase-kept k Resting

-- a match is set
pub armed_kept : (k : Latches) (w : Way) (t : ℕ)
    → let x : Channel = stands_for k in
    latched k record { initialised = x.initialised; kind = x.kind; level = x.level; timer = x.timer; way = w; phase = Armed t; late = x.late }
    ≡ record { flags = with_field 2 (with_field 1 k.flags 2 (way_number w)) 3 2; time = t; late = k.late; set = k.set }
unfolding time_after set_after
armed_kept k w t = way-kept k w (Armed t)

-- a match has happened
pub matched-kept : (k : Latches) (w : Way) (n t : ℕ)
    → let x : Channel = stands_for k in
    latched k record { initialised = x.initialised; kind = x.kind; level = x.level; timer = x.timer; way = w; phase = Matched n t; late = x.late }
    ≡ record { flags = with_field 2 (with_field 1 k.flags 2 (way_number w)) 3 3; time = n; late = k.late; set = t }
unfolding time_after set_after
matched-kept k w n t = way-kept k w (Matched n t)

-- how late it was is told
pub late-kept : (k : Latches) (n : ℕ)
    → let x : Channel = stands_for k in
    latched k record { initialised = x.initialised; kind = x.kind; level = x.level; timer = x.timer; way = x.way; phase = x.phase; late = n }
    ≡ record { flags = k.flags; time = k.time; late = n; set = k.set }
unfolding flags_of
late-kept k n = made k _ _ _ _ _ (flags-stay k) (times-stay k).0 refl (times-stay k).1
