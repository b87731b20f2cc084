-- The three words say which channels are ready.
use Prim.Native.Nat.{ℕ, zero, suc, ◌+◌, ◌-◌, ◌*◌, ◌/◌, ◌%◌, ◌^◌, ◌≤◌, ◌<◌}
use native.Mathlib.Omega.{arith}
use native.Mathlib.Numerals.{add-one}
use native.Mathlib.Nat.{mod-eq_of_lt, zero-div, div-le_self}
use mathlib.Core.Bool.{Bool, true, false, ◌&&◌}
use mathlib.Core.Logic.{◌≢◌}
use mathlib.Core.Path.{◌≡◌, refl, sym, ap, ◌∙◌}
use lib.Count.{count_trailing_zeros}
use lib.Dec.{eqb, ltb}
use lib.Pow.{shr-shr}
use borrow.Author.Tests.{eqb-true, eqb-false, ne_eqb, ltb-true, ltb-false}
use Rattle.std.specs.Prelude.{Option}
use Rattle.words.specs.Choice.{pick}
use Rattle.words.specs.Field.{field, with_field, bit_of}
use Rattle.words.proofs.ChoiceLaws.{not-both}
use Rattle.words.proofs.FieldLaws.{field_lt, field-high, field_fits}
use Rattle.slots.specs.declared.Ready.{Ready}
use Rattle.slots.specs.declared.Service.{Service}
use Rattle.slots.specs.declared.Slots.{Slots}
use Rattle.slots.specs.Slots.{ready_in, asked_in, chosen}
use Rattle.slots.proofs.FirstBit.{trailing_lt, trailing-set, trailing-low}
use Rattle.slots.proofs.Within.{one-service}
use Rattle.motor.specs.declared.Phase.{Phase}
use Rattle.unit.specs.declared.State.{State}
use Rattle.unit.specs.TheUnit.{cpr_of, reg, priority}
use Rattle.unit.specs.Pending.{is_wanted, wanted, asks_of}
use Rattle.unit.proofs.Access.{bit-same, bit-other}
use Rattle.unit.proofs.Tests.{and_no}
use Rattle.tick.specs.Ready.{pends, pending_below, noted, asked, ready_below}

-- ---- a word that gets a bit for each channel in turn of which f holds

no-bit : (c : ℕ) → bit_of 0 c ≡ false
unfolding bit_of field
no-bit c = rw (zero-div (2 ^ c))

module _ (f : ℕ → Bool) (word : ℕ → ℕ) (none : word 0 ≡ 0) (next : (n : ℕ) → n < 16 → word (suc n) ≡ pick (f n) (with_field 1 (word n) n 1) (word n)) where
  -- no other bit changes
  same : (n c : ℕ) → n < 16 → c ≢ n → bit_of (word (suc n)) c ≡ bit_of (word n) c
  same n c h d = rw (next n h) (by (f n))
    where
      by : (b : Bool) → bit_of (pick b (with_field 1 (word n) n 1) (word n)) c ≡ bit_of (word n) c
      by true = bit-other (word n) 1 c n d
      by false = refl

  fresh : (n c : ℕ) → n ≤ c → n ≤ 16 → bit_of (word n) c ≡ false
  fresh zero c h l = rw none (no-bit c)
  fresh (suc n) c h l = same n c (omega arith) (λ e. omega (arith, e)) ∙ fresh n c (omega arith) (omega arith)

  here : (n : ℕ) → n < 16 → bit_of (word (suc n)) n ≡ f n
  here n h = rw (next n h) (by (f n))
    where
      by : (b : Bool) → bit_of (pick b (with_field 1 (word n) n 1) (word n)) n ≡ b
      by true = bit-same (word n) 1 n
      by false = fresh n n (omega arith) (omega arith)

  below : (n c : ℕ) → n ≤ 16 → c < n → bit_of (word n) c ≡ f c
  below zero c l h = absurd (omega arith)
  below (suc n) c l h = by (eqb c n) refl (below n c (omega arith))
    where
      by : (b : Bool) → eqb c n ≡ b → (c < n → bit_of (word n) c ≡ f c) → bit_of (word (suc n)) c ≡ f c
      by true e rest = rw (eqb-true c n e) (here n (omega arith))
      by false e rest =
          let d : c ≢ n = eqb-false c n e in
          same n c (omega arith) d ∙ rest (omega (arith, d))

-- ---- the word of a level

and-true : (b : Bool) → (b && true) ≡ b
and-true true = refl
and-true false = refl

of_three : (P : ℕ → Type 0) → P 1 → P 2 → P 3 → (l : ℕ) → 1 ≤ l → l ≤ 3 → P l
of_three P a b c zero least most = absurd (omega arith)
of_three P a b c (suc zero) least most = a
of_three P a b c (suc (suc zero)) least most = b
of_three P a b c (suc (suc (suc zero))) least most = c
of_three P a b c (suc (suc (suc (suc l)))) least most = absurd (omega arith)

-- a channel is noted in the word of its level alone
abbrev Noted : Ready → ℕ → ℕ → ℕ → Type 0
Noted w n l level = ready_in (noted w n l) level ≡ pick (eqb l level) (with_field 1 (ready_in w level) (n % 16) 1) (ready_in w level)

noted_in : (w : Ready) (n l level : ℕ) → 1 ≤ l → l ≤ 3 → 1 ≤ level → level ≤ 3 → Noted w n l level
unfolding ready_in noted
noted_in w n l level a b c d =
    of_three (λ k. Noted w n k level) (of_three (Noted w n 1) refl refl refl level c d)
    (of_three (Noted w n 2) refl refl refl level c d) (of_three (Noted w n 3) refl refl refl level c d) l a b

has-level : (l r : ℕ) (p : Phase) → is_wanted l r p ≡ true → 1 ≤ l
unfolding is_wanted
has-level zero r p e = absurd (not-both e refl)
has-level (suc l) r p e = omega arith

wanted-level : (s : State) (c : ℕ) → wanted s c ≡ true → 1 ≤ priority s c
unfolding wanted
wanted-level s c e = has-level _ _ _ e

priority-small : (s : State) (c : ℕ) → priority s c ≤ 3
unfolding priority
priority-small s c = omega (arith, field_lt 2 (reg s (cpr_of c)) (2 * (c % 8)))

module _ (s : State) (level : ℕ) (least : 1 ≤ level) (most : level ≤ 3) where
  abbrev word : ℕ → ℕ
  word n = ready_in (ready_below n s) level

  next : (n : ℕ) → n < 16 → word (suc n) ≡ pick (asks_of s level n) (with_field 1 (word n) n 1) (word n)
  unfolding ready_below asked asks_of
  next n h = by (wanted s n) refl
    where
      w : Ready
      w = ready_below n s

      by : (b : Bool) → wanted s n ≡ b
          → ready_in (pick b (noted w n (priority s n)) w) level ≡ pick (eqb (priority s n) level && b) (with_field 1 (word n) n 1) (word n)
      by true e =
          let small : n % 16 ≡ n = mod-eq_of_lt h in
          rw (noted_in w n (priority s n) level (wanted-level s n e) (priority-small s n) least most, and-true, small) refl
      by false e = rw (and_no (eqb (priority s n) level) false refl) refl

  begin : word 0 ≡ 0
  unfolding ready_below ready_in
  begin = of_three (λ k. ready_in (ready_below 0 s) k ≡ 0) refl refl refl level least most

  says : (c : ℕ) → c < 16 → bit_of (word 16) c ≡ asks_of s level c
  says c h = below (asks_of s level) word begin next 16 c (omega arith) h

pub chosen-words : (s : State) → chosen s.slots (asked_in (ready_below 16 s)) ≡ chosen s.slots (asks_of s)
unfolding asked_in
chosen-words s =
    one-service.words s.slots (asked_in (ready_below 16 s)) (asks_of s)
    (λ level c l. says s level l.least l.most c l.channel)

pub picked : (s : State) (z : Slots) (v : Option Service) (w : Ready) → z ≡ s.slots → w ≡ ready_below 16 s → v ≡ chosen z (asked_in w)
    → chosen s.slots (asks_of s) ≡ v
picked s z v w d e f = sym (chosen-words s) ∙ ap (λ x. chosen s.slots (asked_in x)) (sym e) ∙ ap (λ x. chosen x (asked_in w)) (sym d) ∙ sym f

-- ---- one channel: what is pending is asked before the priority

not-pending : (s : State) (c : ℕ) (w : Ready) → pends s c ≡ false → asked s c w ≡ w
unfolding asked wanted is_wanted pends
not-pending s c w e = rw e (by (eqb (priority s c) 0))
  where
    by : (b : Bool) → pick (pick b false false) (noted w c (priority s c)) w ≡ w
    by true = refl
    by false = refl

pub disabled : (s : State) (c : ℕ) (w : Ready) → priority s c ≡ 0 → w ≡ asked s c w
unfolding asked wanted is_wanted
disabled s c w e = rw e

pub is-asked : (s : State) (c : ℕ) (w : Ready) → pends s c ≡ true → priority s c ≢ 0 → noted w c (priority s c) ≡ asked s c w
unfolding asked wanted is_wanted pends
is-asked s c w e n = rw (e, ne_eqb (priority s c) 0 n)

-- ---- the channels that have something pending, by the bits of a word

module _ (s : State) where
  abbrev pending : ℕ
  pending = pending_below 16 s

  pub with-bit-more : (n : ℕ) → pends s n ≡ true → with_field 1 (pending_below n s) (n % 16) 1 ≡ pending_below (suc n) s
  unfolding pending_below
  with-bit-more n e = rw e

  pub no-bit-more : (n : ℕ) → pends s n ≡ false → pending_below n s ≡ pending_below (suc n) s
  unfolding pending_below
  no-bit-more n e = rw e

  next-pending : (n : ℕ) → n < 16 → pending_below (suc n) s ≡ pick (pends s n) (with_field 1 (pending_below n s) n 1) (pending_below n s)
  unfolding pending_below
  next-pending n h = let small : n % 16 ≡ n = mod-eq_of_lt h in rw small

  begin-pending : pending_below 0 s ≡ 0
  unfolding pending_below
  begin-pending = refl

  small : (n : ℕ) → n ≤ 16 → pending_below n s < 2 ^ 16
  small zero h = rw begin-pending (omega arith)
  small (suc n) h = rw (next-pending n (omega arith)) (by (pends s n) (small n (omega arith)))
    where
      by : (b : Bool) → pending_below n s < 2 ^ 16 → pick b (with_field 1 (pending_below n s) n 1) (pending_below n s) < 2 ^ 16
      by true l = field_fits 1 (pending_below n s) n 1 16 (omega arith) l
      by false l = l

  bit_is : (c : ℕ) → c < 16 → bit_of pending c ≡ pends s c
  bit_is c h = below (pends s) (λ n. pending_below n s) begin-pending next-pending 16 c (omega arith) h

  bit-beyond : (c : ℕ) → 16 ≤ c → bit_of pending c ≡ false
  bit-beyond c h = fresh (pends s) (λ n. pending_below n s) begin-pending next-pending 16 c h (omega arith)

  bit-from : (c i : ℕ) → bit_of (pending / 2 ^ c) i ≡ bit_of pending (c + i)
  unfolding bit_of
  bit-from c i = ap (λ d. eqb d 1) (field-high 1 pending c i)

  passed : (n : ℕ) → pends s n ≡ false → ready_below (suc n) s ≡ ready_below n s
  unfolding ready_below
  passed n e = not-pending s n (ready_below n s) e

  -- channels without a bit are passed over
  skipped : (c k : ℕ) → c + k ≤ 16 → ((i : ℕ) → i < k → bit_of (pending / 2 ^ c) i ≡ false) → ready_below (c + k) s ≡ ready_below c s
  skipped c zero h low = let e : c + 0 ≡ c = omega arith in rw e
  skipped c (suc k) h low =
      let e : c + suc k ≡ suc (c + k) = omega arith in
      let idle : pends s (c + k) ≡ false = sym (bit_is (c + k) (omega arith)) ∙ sym (bit-from c k) ∙ low k (omega arith) in
      rw e (passed (c + k) idle ∙ skipped c k (omega arith) (λ i l. low i (omega arith)))

  pub none_left : (c : ℕ) → c ≤ 16 → pending / 2 ^ c ≡ 0 → ready_below c s ≡ ready_below 16 s
  none_left c h e =
      let whole : c + (16 - c) ≡ 16 = omega arith in
      sym (skipped c (16 - c) (omega arith) (λ i l. rw e (no-bit i))) ∙ ap (λ n. ready_below n s) whole

  pub one-noted : (c : ℕ) (w : Ready) → w ≡ ready_below c s → asked s c w ≡ ready_below (c + 1) s
  unfolding ready_below
  one-noted c w e = rw (e, add-one)

  pub shifted : (c k rest : ℕ) → rest ≡ pending / 2 ^ c → rest / 2 ^ k / 2 ≡ pending / 2 ^ (c + k + 1)
  shifted c k rest e = rw (e, shr-shr pending c k) (shr-shr pending (c + k) 1)

  -- the next bit that is set is of a channel with something pending, the first from c on
  pub next-set : (c rest : ℕ) → c ≤ 16 → rest ≡ pending / 2 ^ c → 0 < rest
      → (c + count_trailing_zeros 16 rest < 16) × (pends s (c + count_trailing_zeros 16 rest) ≡ true) × (ready_below (c + count_trailing_zeros 16 rest) s ≡ ready_below c s)
  next-set c rest h e n = (inside, sym (bit_is (c + k) inside) ∙ set, skipped c k (omega (arith, inside)) (λ i m. ap (λ x. bit_of x i) (sym e) ∙ trailing-low 16 rest i m))
    where
      k : ℕ
      k = count_trailing_zeros 16 rest

      fits : rest < 2 ^ 16
      fits = omega (arith, e, div-le_self pending (2 ^ c), small 16 (omega arith))

      set : bit_of pending (c + k) ≡ true
      set = sym (bit-from c k) ∙ ap (λ x. bit_of x k) (sym e) ∙ trailing-set 16 rest (trailing_lt 16 rest fits (λ z. omega (arith, z, n)))

      inside : c + k < 16
      inside = by (ltb (c + k) 16) refl
        where
          by : (b : Bool) → ltb (c + k) 16 ≡ b → c + k < 16
          by true t = ltb-true (c + k) 16 t
          by false t = absurd (not-both set (bit-beyond (c + k) (ltb-false (c + k) 16 t)))
