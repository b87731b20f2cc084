-- The words of a channel as they will be once its motor has arrived; ticks leave them alone: `settled-tick`.
use Prim.Native.Nat.{ℕ, suc, ◌+◌, ◌*◌, ◌/◌, ◌%◌, ◌≤◌, ◌<◌}
use native.Mathlib.Omega.{arith}
use mathlib.Core.Bool.{Bool, true, false}
use mathlib.Core.Path.{◌≡◌, refl, ap, sym, subst, ◌∙◌}
use mathlib.Core.Logic.{◌≢◌, ⊎_elim}
use lib.Dec.{eqb}
use borrow.Author.Tests.{eqb-true, eqb-false}
use Rattle.words.specs.Choice.{pick}
use Rattle.words.specs.Field.{field}
use Rattle.words.proofs.FieldLaws.{field_lt}
use Rattle.words.proofs.ChoiceLaws.{pick-cases, not-both, and_left, and_right}
use Rattle.motor.specs.declared.Way.{Way}
use Rattle.motor.specs.declared.Way.TheVariants.{Right, Left}
use Rattle.motor.specs.declared.Motor.{Motor}
use Rattle.motor.specs.Track.{NextTo, Done}
use Rattle.motor.specs.Group.{Group, bound, Ticked, Idles, Moves, Ends}
use Rattle.motor.specs.Group as group
use Rattle.motor.proofs.OneTick.{one-tick}
use Rattle.unit.specs.declared.State.{State}
use Rattle.unit.specs.TheUnit.{word, position, mod_count, stepping}
use Rattle.unit.specs.OneTick.{tick}
use Rattle.unit.specs.Gate.{otherwise_zero}
use Rattle.history.specs.OneStep.{CountMoves}
use Rattle.history.specs.Always.{GroupShown}
use Rattle.history.proofs.Look.{look}
use Rattle.history.proofs.Own.{View, view_in, view, group_in}
use Rattle.history.proofs.Ticks.{patience_in, ours, slots_after, view_ticked, view-tick}
use Rattle.history.proofs.Alone.{fades-tick}
use Rattle.history.proofs.Held.{Held}
use Rattle.history.proofs.Fine.{Fine, fine-tick, small_word}
use Rattle.history.proofs.WholeSteps.{tick_is}
use Rattle.history.proofs.Shown.{Every, shown-tick}
use Rattle.history.proofs.Every.{Good}
use Rattle.isolation.proofs.KeptWords.{KeptWords, kept-tick}

-- word 4, of a motor at the place p, once it is at the place t: MOD_CNT goes with the place, and the next rate is 1
unfoldable pub rates_at : ℕ → ℕ → ℕ → ℕ
rates_at w p t = 256 * ((field 4 w 8 + t + 15 * p) % 16) + 1

-- word i of a primary under way, once it has arrived
unfoldable pub going : State → ℕ → ℕ → ℕ
going s j i = pick (eqb i 2) (word s j 3) (pick (eqb i 4) (rates_at (word s j 4) (word s j 2) (word s j 3)) (word s j i))

unfoldable pub settled : State → ℕ → ℕ → ℕ
settled s j i = pick (stepping s j) (going s j i) (word s j i)

pub at_rest : (s : State) (j i : ℕ) → stepping s j ≡ false → settled s j i ≡ word s j i
unfolding settled
at_rest s j i e = rw e refl

pub under-way : (s : State) (j i : ℕ) → stepping s j ≡ true → settled s j i ≡ going s j i
unfolding settled
under-way s j i e = rw e refl

-- by the number of the word
pub by_number : (P : ℕ → Type 0) (i : ℕ) → P 2 → P 4 → (i ≢ 2 → i ≢ 4 → P i) → P i
by_number P i two four other = by (eqb i 2) refl (eqb i 4) refl
  where
    by : (b : Bool) → eqb i 2 ≡ b → (d : Bool) → eqb i 4 ≡ d → P i
    by true e d f = subst P (sym (eqb-true i 2 e)) two
    by false e true f = subst P (sym (eqb-true i 4 f)) four
    by false e false f = other (eqb-false i 2 e) (eqb-false i 4 f)

pub going-two : (s : State) (j : ℕ) → going s j 2 ≡ word s j 3
unfolding going
going-two s j = refl

pub going-four : (s : State) (j : ℕ) → going s j 4 ≡ rates_at (word s j 4) (word s j 2) (word s j 3)
unfolding going
going-four s j = refl

pub going-other : (s : State) (j i : ℕ) → i ≢ 2 → i ≢ 4 → going s j i ≡ word s j i
unfolding going
going-other s j i a b = pick-cases (λ x. x ≡ word s j i) (eqb i 2) (λ t. absurd (a (eqb-true i 2 t))) (λ t. pick-cases (λ x. x ≡ word s j i) (eqb i 4) (λ u. absurd (b (eqb-true i 4 u))) (λ u. refl))

-- ---- a tick

count-up : (x y t p : ℕ) → x < 16 → y ≡ (x + 1) % 16 → (y + t + 15 * suc p) % 16 ≡ (x + t + 15 * p) % 16
count-up x y t p h e = by (eqb x 15) refl
  where
    sixteen : (a b : ℕ) → b ≡ a + 16 → b % 16 ≡ a % 16
    sixteen a b q = omega arith

    by : (b : Bool) → eqb x 15 ≡ b → (y + t + 15 * suc p) % 16 ≡ (x + t + 15 * p) % 16
    by true q =
        let n : x ≡ 15 = eqb-true x 15 q in
        let m : y ≡ 0 = omega arith in
        let k : y + t + 15 * suc p ≡ x + t + 15 * p = omega arith in
        ap (λ z. z % 16) k
    by false q =
        let n : x ≢ 15 = eqb-false x 15 q in
        let m : y ≡ x + 1 = omega arith in
        sixteen (x + t + 15 * p) (y + t + 15 * suc p) (omega arith)

rates-step : (w : Way) (x y p q t : ℕ) → CountMoves w (field 4 x 8) (field 4 y 8) → NextTo w p q → rates_at y q t ≡ rates_at x p t
unfolding CountMoves NextTo rates_at
rates-step Right x y p q t e f =
    let k : (field 4 y 8 + t + 15 * q) % 16 ≡ (field 4 x 8 + t + 15 * p) % 16 = ap (λ z. (field 4 y 8 + t + 15 * z) % 16) f ∙ count-up (field 4 x 8) (field 4 y 8) t p (field_lt 4 x 8) e in
    ap (λ z. 256 * z + 1) k
rates-step Left x y p q t e f =
    let k : (field 4 y 8 + t + 15 * q) % 16 ≡ (field 4 x 8 + t + 15 * p) % 16 = sym (count-up (field 4 y 8) (field 4 x 8) t q e.0 e.1) ∙ ap (λ z. (field 4 x 8 + t + 15 * z) % 16) f in
    ap (λ z. 256 * z + 1) k

one-rate-by : (w k : ℕ) → w ≤ 0xffff → w / 4096 % 16 ≡ 0 → w ≡ 256 * k + 1 → w ≡ 256 * (w / 256 % 16) + 1
one-rate-by w k h a e =
    let z : w / 4096 ≡ 0 = omega arith in
    let d : w / 256 ≡ k = omega arith in
    let l : k < 16 = omega arith in
    let m : k % 16 ≡ k = omega arith in
    e ∙ ap (λ x. 256 * x + 1) (sym m ∙ ap (λ x. x % 16) (sym d))

one-rate : (w : ℕ) → w ≤ 0xffff → w / 4096 % 16 ≡ 0 → w / 16 % 16 ≡ 0 → w % 16 ≡ 1 → w ≡ 256 * (w / 256 % 16) + 1
one-rate w h a b c =
    let k : w ≡ 256 * (w / 16 / 16) + 1 = omega arith in
    one-rate-by w (w / 16 / 16) h a k

same_place : (m p : ℕ) → m < 16 → (m + p + 15 * p) % 16 ≡ m
same_place m p h = omega arith

low_field : (w : ℕ) → field 4 w 0 ≡ w % 16
unfolding field
low_field w = omega arith

rates-arrived : (w p : ℕ) → w ≤ 0xffff → otherwise_zero w ≡ true → field 4 w 0 ≡ 1 → w ≡ rates_at w p p
unfolding rates_at otherwise_zero field
rates-arrived w p h z k =
    let a : w / 4096 % 16 ≡ 0 = eqb-true (field 4 w 12) 0 (and_left (eqb (field 4 w 12) 0) (eqb (field 4 w 4) 0) z) in
    let b : w / 16 % 16 ≡ 0 = eqb-true (field 4 w 4) 0 (and_right (eqb (field 4 w 12) 0) (eqb (field 4 w 4) 0) z) in
    let m : field 4 w 8 < 16 = field_lt 4 w 8 in
    one-rate w h a b (sym (low_field w) ∙ k) ∙ ap (λ x. 256 * x + 1) (sym (same_place (field 4 w 8) p m))

counts : (n : ℕ) → n < 16 → field 4 (256 * n + 1) 8 ≡ n
unfolding field
counts n h = omega arith

-- once there, it stays
pub rates-again : (w p q t : ℕ) → rates_at (rates_at w p q) t t ≡ rates_at w p q
unfolding rates_at
rates-again w p q t =
    let m : (field 4 w 8 + q + 15 * p) % 16 < 16 = omega arith in
    ap (λ x. 256 * x + 1) (ap (λ x. (x + t + 15 * t) % 16) (counts ((field 4 w 8 + q + 15 * p) % 16) m) ∙ same_place ((field 4 w 8 + q + 15 * p) % 16) t m)

module _ (s : State) (x : Good s) (j : ℕ) (small : j < 16) where
  abbrev t : State
  t = tick s

  kept : (i : ℕ) → i < 8 → i ≢ 0 → (stepping s j ≡ true → (i ≢ 2) × (i ≢ 4)) → word t j i ≡ word s j i
  unfolding KeptWords
  kept i l n g = kept-tick s x.0.sized x.0.going j i l n g

  still-low : stepping s j ≡ false → stepping t j ≡ false
  still-low e = by (stepping t j) refl
    where
      by : (b : Bool) → stepping t j ≡ b → stepping t j ≡ false
      by true g = absurd (not-both ((fades-tick s x.0.sized x.0.going).still j g) e)
      by false g = g

  rests-tick : stepping s j ≡ false → (i : ℕ) → i < 8 → i ≢ 0 → settled t j i ≡ settled s j i
  rests-tick e i l n = at_rest t j i (still-low e) ∙ kept i l n (λ g. absurd (not-both g e)) ∙ sym (at_rest s j i e)

  module _ (up : stepping s j ≡ true) where
    held : Held j s
    unfolding Every
    held = (x.1 j small up).0

    shown : GroupShown j s
    unfolding Every
    shown = (x.1 j small up).1

    target-kept : word t j 3 ≡ word s j 3
    target-kept = kept 3 (omega arith) (omega arith) (λ g. (omega arith, omega arith))

    -- on it goes
    goes_on : rates_at (word t j 4) (word t j 2) (word t j 3) ≡ rates_at (word s j 4) (word s j 2) (word s j 3) → stepping t j ≡ true → (i : ℕ) → i < 8 → i ≢ 0 → settled t j i ≡ settled s j i
    goes_on r g =
        λ i l n. under-way t j i g
        ∙ by_number (λ k. k < 8 → k ≢ 0 → going t j k ≡ going s j k) i
        (λ a b. going-two t j ∙ target-kept ∙ sym (going-two s j)) (λ a b. going-four t j ∙ r ∙ sym (going-four s j))
        (λ p q a b. going-other t j i p q ∙ kept i a b (λ y. (p, q)) ∙ sym (going-other s j i p q)) l n
        ∙ sym (under-way s j i up)

    rates-same : rates_at (word t j 4) (word t j 2) (word t j 3) ≡ rates_at (word s j 4) (word s j 2) (word s j 3)
    unfolding mod_count position
    rates-same =
        ⊎_elim
        (λ y. ap (rates_at (word t j 4) (word t j 2)) target-kept ∙ rates-step y.way (word s j 4) (word t j 4) (word s j 2) (word t j 2) (word s j 3) y.count y.place)
        (λ y. λ i. rates_at (y.rates i) (y.place i) (target-kept i))
        (tick_is j s held x.0)

    -- it has arrived
    ended : stepping t j ≡ false → Done (view s j).group.motor × ((view t j).group.motor ≡ (view s j).group.motor)
    unfolding view_ticked view view_in group_in look stepping
    ended g =
        let q : ℕ → ℕ = patience_in (slots_after s) j in
        let e : (view t j).group ≡ group.tick (ours j s) q (view s j).group = ap (λ (v : View). v.group) (view-tick j s held.sized held.alone.going held.seen) in
        by (group.tick (ours j s) q (view s j).group) e (one-tick.does (ours j s) q (view s j).group held.seen.sound up)
      where
        by : (k : Group) → (view t j).group ≡ k → Ticked (view s j).group.motor k → Done (view s j).group.motor × ((view t j).group.motor ≡ (view s j).group.motor)
        by k e (Idles a b c) = absurd (not-both (ap (λ (z : Group). bound z.phase) e ∙ b) g)
        by k e (Moves a b c) = absurd (not-both (ap (λ (z : Group). bound z.phase) e ∙ b) g)
        by k e (Ends a b c d f) = (a, ap (λ (z : Group). z.motor) e ∙ b)

    fine : Fine t
    fine = fine-tick s x.0

    zeros : otherwise_zero (word t j 4) ≡ true
    zeros = (shown-tick j s x.0 held shown).rates

    arrives : stepping t j ≡ false → (i : ℕ) → i < 8 → i ≢ 0 → settled t j i ≡ settled s j i
    unfolding view view_in group_in look
    arrives g i l n =
        let d : Done (view s j).group.motor × ((view t j).group.motor ≡ (view s j).group.motor) = ended g in
        let p : word t j 2 ≡ word s j 2 = ap (λ (m : Motor). m.position) d.1 in
        let there : word s j 2 ≡ word s j 3 = d.0.reached in
        let here : word t j 2 ≡ word t j 3 = p ∙ there ∙ sym target-kept in
        let rate : field 4 (word t j 4) 0 ≡ 1 = ap (λ (m : Motor). m.rate) d.1 ∙ d.0.slowest in
        at_rest t j i g
        ∙ by_number (λ k. k < 8 → k ≢ 0 → word t j k ≡ going s j k) i
        (λ a b. p ∙ there ∙ sym (going-two s j))
        (λ a b. rates-arrived (word t j 4) (word t j 2) (small_word t j 4 fine) zeros rate ∙ ap (rates_at (word t j 4) (word t j 2)) here ∙ rates-same ∙ sym (going-four s j))
        (λ p q a b. kept i a b (λ y. (p, q)) ∙ sym (going-other s j i p q)) l n
        ∙ sym (under-way s j i up)

  pub settled-tick : (i : ℕ) → i < 8 → i ≢ 0 → settled t j i ≡ settled s j i
  settled-tick = by (stepping s j) refl (stepping t j) refl
    where
      by : (b : Bool) → stepping s j ≡ b → (d : Bool) → stepping t j ≡ d → (i : ℕ) → i < 8 → i ≢ 0 → settled t j i ≡ settled s j i
      by false e d f = rests-tick e
      by true e true f = goes_on e (rates-same e) f
      by true e false f = arrives e f
