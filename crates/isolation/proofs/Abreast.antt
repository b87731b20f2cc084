-- Two runs side by side, as the paper has them, are felt alike: `abreast-felt`. Of the row's state only its fields of CFSR and CPR matter.
use Prim.Native.Nat.{ℕ, zero, suc, ◌+◌, ◌-◌, ◌*◌, ◌%◌, ◌≤◌, ◌<◌}
use native.Mathlib.Omega.{arith}
use mathlib.Core.Bool.{Bool, true, false, not, ◌&&◌}
use mathlib.Core.List.{List, [], ◌∷◌, ◌++◌}
use mathlib.Core.Logic.{◌≢◌, ◌⊎◌, inl, inr, ⊎_elim}
use mathlib.Core.Path.{◌≡◌, refl, ap, sym, subst, ◌∙◌}
use lib.Dec.{leb, eqb}
use lib.ListN.{get_or}
use borrow.Author.Tests.{eq-eqb, lt-leb, leb-true, eqb-true, eqb-false}
use Rattle.words.specs.Choice.{pick}
use Rattle.words.specs.Field.{field}
use Rattle.words.proofs.ChoiceLaws.{pick-cases, same-pick, and_left, and_right}
use Rattle.unit.specs.declared.State.{State}
use Rattle.unit.specs.declared.Place.{Place}
use Rattle.unit.specs.declared.Place.TheVariants.{AtRegister, AtWord, AtLate, Nowhere}
use Rattle.unit.specs.TheUnit.{reg, function, priority, cfsr_of, hsrr_of, cpr_of, exists}
use Rattle.unit.specs.OneTick.{tick}
use Rattle.unit.specs.Gate.{place, gate, ask_register, ask_place}
use Rattle.unit.specs.Calls.{is_taken, write_of, answered_by}
use Rattle.unit.proofs.Reset.{Sized}
use Rattle.unit.proofs.Access.{reg_same}
use Rattle.unit.proofs.Passing.{time-passes}
use Rattle.unit.proofs.Places.{gate-place}
use Rattle.unit.proofs.Tests.{and_no}
use Rattle.history.specs.Moments.{Act, Ticks, Writes, Nothing, does}
use Rattle.history.proofs.Calls.{Words}
use Rattle.history.proofs.Leaves.{writes-leave}
use Rattle.history.proofs.Walk.{IfTaken, taken_yes, walk-register}
use Rattle.history.proofs.Every.{Good, good-write}
use Rattle.history.proofs.Always.{good-tick}
use Rattle.isolation.specs.Row.{Row, in_row, Felt, Word, Function, Priority, Request, gather, new_function, new_priority, new_request, felt_at, felt_of, felt}
use Rattle.isolation.specs.Abreast.{SameFor, LeavesAlone, Aside, Abreast, ended, ticked, first, second, both}
use Rattle.isolation.proofs.Ideal.{kept}
use Rattle.std.specs.Prelude.{Err}
use Rattle.unit.specs.declared.Refusal.TheVariants.{NoSuchAddress}

-- the row's fields of CFSR and CPR agree
pub record Fields (r : Row) (s t : State) : Type 0 where
  pub functions : (j : ℕ) → in_row r j ≡ true → function s j ≡ function t j
  pub priorities : (j : ℕ) → in_row r j ≡ true → priority s j ≡ priority t j

-- ---- a tick leaves them

-- neither CFSR, registers 1 to 4, nor CPR, 9 and 10, changes in a tick
function-tick : (s : State) (j : ℕ) → function (tick s) j ≡ function s j
unfolding function cfsr_of
function-tick s j = ap (λ x. field 4 x (4 * (j % 4))) (time-passes.registers s (cfsr_of j) (λ e. omega arith) (λ e. omega arith) (λ e. omega arith))

priority-tick : (s : State) (j : ℕ) → priority (tick s) j ≡ priority s j
unfolding priority cpr_of
priority-tick s j = ap (λ x. field 2 x (2 * (j % 8))) (time-passes.registers s (cpr_of j) (λ e. omega arith) (λ e. omega arith) (λ e. omega arith))

fields-tick : (r : Row) (s t : State) → Fields r s t → Fields r (tick s) (tick t)
fields-tick r s t x =
    record {
      functions = λ j m. function-tick s j ∙ x.functions j m ∙ sym (function-tick t j);
      priorities = λ j m. priority-tick s j ∙ x.priorities j m ∙ sym (priority-tick t j);
    }

-- ---- a taken write

reg-stored : (s : State) (i v : ℕ) → Sized s → i < 11 → (i < 7) ⊎ (8 < i) → IfTaken (λ w. reg w i ≡ v) s (ask_register s i v)
reg-stored s i v z l n =
    walk-register (λ w. reg w i ≡ v) s i v
    record {
      keep = λ e. absurd (omega arith);
      plain = λ m o q. reg_same s i v (omega arith) z;
      functions = λ a b q. reg_same s i v (omega arith) z;
      requests = λ a b. absurd (⊎_elim (λ y. omega arith) (λ y. omega arith) n);
    }

module _ (s : State) (z : Sized s) (a v : ℕ) (t : is_taken (write_of s a v).answer ≡ true) where
  reg-after : (i : ℕ) → place a ≡ AtRegister i → i < 11 → (i < 7) ⊎ (8 < i) → reg (does (Writes a v) s) i ≡ v
  unfolding does write_of ask_place
  reg-after i e l n =
      let g : gate s a v ≡ ask_register s i v = gate-place s a v ∙ ap (λ p. ask_place s p v) e in
      subst (λ k. is_taken (answered_by k s).answer ≡ true → reg (answered_by k s).state i ≡ v) (sym g) (taken_yes (λ w. reg w i ≡ v) s (ask_register s i v) (reg-stored s i v z l n)) t

  -- where the place can not be written all registers stand
  refused-at : (k : ℕ) (p : Place) → place a ≡ p → ask_place s p v ≡ Err NoSuchAddress → reg (does (Writes a v) s) k ≡ reg s k
  unfolding does write_of answered_by
  refused-at k p e q =
      let g : gate s a v ≡ Err NoSuchAddress = gate-place s a v ∙ ap (λ p. ask_place s p v) e ∙ q in
      subst (λ y. reg (answered_by y s).state k ≡ reg s k) (sym g) refl

  -- a register is the one written, or stands
  reg-other : (k : ℕ) → (p : Place) → place a ≡ p → p ≢ AtRegister k → reg (does (Writes a v) s) k ≡ reg s k
  unfolding does reg write_of ask_place answered_by
  reg-other k (AtRegister i) e n = (writes-leave.at_register s a v i e).registers k (λ q. n (ap AtRegister (sym q)))
  reg-other k (AtWord c i) e n = ap (λ (u : List ℕ). get_or u k 0) (writes-leave.at-word s a v c i e).registers
  reg-other k (AtLate c) e n = refused-at k (AtLate c) e refl
  reg-other k Nowhere e n = refused-at k Nowhere e refl

gather_none : (n a : ℕ) (f : ℕ → List Felt) → ((j : ℕ) → a ≤ j → j < a + n → f j ≡ []) → gather n a f ≡ []
unfolding gather
gather_none zero a f h = refl
gather_none (suc n) a f h = rw (gather_none n a f (λ j l m. h j l (omega arith)), h (a + n) (omega arith) (omega arith))

gather-same : (n a : ℕ) (f g : ℕ → List Felt) → ((j : ℕ) → a ≤ j → j < a + n → f j ≡ g j) → gather n a f ≡ gather n a g
unfolding gather
gather-same zero a f g h = refl
gather-same (suc n) a f g h = rw (gather-same n a f g (λ j l m. h j l (omega arith)), h (a + n) (omega arith) (omega arith))

-- ---- one channel of a word

-- not felt: it is none of the row, or nothing is new
unfelt : (b c : Bool) (x : Felt) → (b ≡ true → c ≡ false) → pick (b && c) (x ∷ []) [] ≡ []
unfelt true c x h = rw (h refl)
unfelt false c x h = refl

-- felt alike, where it is of the row
alike-felt : (b c d : Bool) (x y : Felt) → (b ≡ true → (c ≡ d) × (x ≡ y)) → pick (b && c) (x ∷ []) [] ≡ pick (b && d) (y ∷ []) []
alike-felt true c d x y h = rw ((h refl).0, (h refl).1)
alike-felt false c d x y h = refl

differs-not : (a b : ℕ) → a ≡ b → not (eqb a b) ≡ false
differs-not a b e = rw (eq-eqb a b e)

-- ---- a write at a place

-- the channels of a register, which the test for it finds
between : (lo i hi : ℕ) → (leb lo i && leb i hi) ≡ true → (lo ≤ i) × (i ≤ hi)
between lo i hi t = (leb-true lo i (and_left (leb lo i) (leb i hi) t), leb-true i hi (and_right (leb lo i) (leb i hi) t))

in-cfsr : (i j : ℕ) → (leb 1 i && leb i 4) ≡ true → 4 * (4 - i) ≤ j → j < 4 * (4 - i) + 4 → cfsr_of j ≡ i
unfolding cfsr_of
in-cfsr i j t l m = let k : (1 ≤ i) × (i ≤ 4) = between 1 i 4 t in omega arith

in-hsrr : (i j : ℕ) → (leb 7 i && leb i 8) ≡ true → 8 * (8 - i) ≤ j → j < 8 * (8 - i) + 8 → hsrr_of j ≡ i
unfolding hsrr_of
in-hsrr i j t l m = let k : (7 ≤ i) × (i ≤ 8) = between 7 i 8 t in omega arith

in-cpr : (i j : ℕ) → (leb 9 i && leb i 10) ≡ true → 8 * (10 - i) ≤ j → j < 8 * (10 - i) + 8 → cpr_of j ≡ i
unfolding cpr_of
in-cpr i j t l m = let k : (9 ≤ i) × (i ≤ 10) = between 9 i 10 t in omega arith

left-unfelt : (r : Row) (s : State) (v : ℕ) (p : Place) → LeavesAlone r s v p → felt_at r s v p ≡ []
unfolding felt_at new_function new_priority new_request LeavesAlone
left-unfelt r s v (AtRegister i) h =
    pick-cases (λ es. es ≡ []) (leb 1 i && leb i 4)
    (λ t. gather_none 4 (4 * (4 - i)) _ (λ j l m. unfelt (in_row r j) _ _ (λ q. differs-not _ _ ((h j q).0 (in-cfsr i j t l m)))))
    (λ t. pick-cases (λ es. es ≡ []) (leb 7 i && leb i 8)
    (λ u. gather_none 8 (8 * (8 - i)) _ (λ j l m. unfelt (in_row r j) _ _ (λ q. lt-leb 2 _ ((h j q).1 (in-hsrr i j u l m)))))
    (λ u. pick-cases (λ es. es ≡ []) (leb 9 i && leb i 10)
    (λ w. gather_none 8 (8 * (10 - i)) _ (λ j l m. unfelt (in_row r j) _ _ (λ q. differs-not _ _ ((h j q).2 (in-cpr i j w l m))))) (λ w. refl)))
left-unfelt r s v (AtWord c i) h = ⊎_elim (λ n. rw n) (λ n. rw (and_no (in_row r c) (exists c i) n)) h
left-unfelt r s v (AtLate k) h = refl
left-unfelt r s v Nowhere h = refl

same-felt-at : (r : Row) (s t : State) (v w : ℕ) (p : Place) → Fields r s t → SameFor r v w p → felt_at r s v p ≡ felt_at r t w p
unfolding felt_at new_function new_priority new_request SameFor
same-felt-at r s t v w (AtRegister i) x h =
    same-pick (leb 1 i && leb i 4)
    (λ a. gather-same 4 (4 * (4 - i)) _ _ (λ j l m. alike-felt (in_row r j) _ _ _ _
    (λ q. let e : field 4 v (4 * (j % 4)) ≡ field 4 w (4 * (j % 4)) = (h j q).0 (in-cfsr i j a l m) in (λ k. not (eqb (e k) (x.functions j q k)), ap (Function j) e))))
    (λ a. same-pick (leb 7 i && leb i 8)
    (λ b. gather-same 8 (8 * (8 - i)) _ _ (λ j l m. alike-felt (in_row r j) _ _ _ _
    (λ q. let e : field 2 v (2 * (j % 8)) ≡ field 2 w (2 * (j % 8)) = (h j q).1 (in-hsrr i j b l m) in (ap (leb 2) e, ap (Request j) e))))
    (λ b. same-pick (leb 9 i && leb i 10)
    (λ c. gather-same 8 (8 * (10 - i)) _ _ (λ j l m. alike-felt (in_row r j) _ _ _ _
    (λ q. let e : field 2 v (2 * (j % 8)) ≡ field 2 w (2 * (j % 8)) = (h j q).2 (in-cpr i j c l m) in (λ k. not (eqb (e k) (x.priorities j q k)), ap (Priority j) e))))
    (λ c. refl)))
same-felt-at r s t v w (AtWord c i) x h = ap (λ y. pick (in_row r c && exists c i) (Word c i y ∷ []) []) h
same-felt-at r s t v w (AtLate k) x h = refl
same-felt-at r s t v w Nowhere x h = refl

-- ---- what one run may do without the other

aside-unfelt : (r : Row) (x : Act) (s : State) → Aside r x s → felt_of r x s ≡ []
unfolding Aside felt_of
aside-unfelt r Ticks s h = absurd h
aside-unfelt r (Writes a v) s h = pick-cases (λ es. es ≡ []) (is_taken (write_of s a v).answer) (λ t. left-unfelt r s v (place a) (h t)) (λ t. refl)
aside-unfelt r Nothing s h = refl

-- ---- the fields after an act

abbrev number_of : Place → ℕ
number_of (AtRegister i) = i
number_of (AtWord c i) = 0
number_of (AtLate k) = 0
number_of Nowhere = 0

abbrev kind_of : Place → ℕ
kind_of (AtRegister i) = 0
kind_of (AtWord c i) = 1
kind_of (AtLate k) = 1
kind_of Nowhere = 1

register-is : (i k : ℕ) → AtRegister i ≡ AtRegister k → i ≡ k
register-is i k e = ap number_of e

not_register : (p : Place) (k : ℕ) → 1 ≤ kind_of p → p ≡ AtRegister k → ⊥
not_register p k h e = let x : kind_of p ≡ 0 = ap kind_of e in omega arith

cfsr-range : (j : ℕ) → (1 ≤ cfsr_of j) × (cfsr_of j ≤ 4)
unfolding cfsr_of
cfsr-range j = (omega arith, omega arith)

cpr-range : (j : ℕ) → (9 ≤ cpr_of j) × (cpr_of j ≤ 10)
unfolding cpr_of
cpr-range j = (omega arith, omega arith)

-- what F says of the register k after a taken write: by the word written there, or by the word that stands
reg-now : (s : State) → Sized s → (a v : ℕ) → is_taken (write_of s a v).answer ≡ true → (k : ℕ) → k < 11 → (k < 7) ⊎ (8 < k) → (F : ℕ → ℕ) (x : ℕ)
    → ((i : ℕ) → place a ≡ AtRegister i → k ≡ i → F v ≡ x) → ((p : Place) → place a ≡ p → p ≢ AtRegister k → F (reg s k) ≡ x) → F (reg (does (Writes a v) s) k) ≡ x
reg-now s z a v t k l n F x written stood = by (place a) refl
  where
    other : (p : Place) → place a ≡ p → p ≢ AtRegister k → F (reg (does (Writes a v) s) k) ≡ x
    other p e m = ap F (reg-other s z a v t k p e m) ∙ stood p e m

    at : (i : ℕ) → place a ≡ AtRegister i → (b : Bool) → eqb k i ≡ b → F (reg (does (Writes a v) s) k) ≡ x
    at i e true q = let y : k ≡ i = eqb-true k i q in ap F (reg-after s z a v t k (e ∙ ap AtRegister (sym y)) l n) ∙ written i e y
    at i e false q = other (AtRegister i) e (λ y. eqb-false k i q (sym (register-is i k y)))

    by : (p : Place) → place a ≡ p → F (reg (does (Writes a v) s) k) ≡ x
    by (AtRegister i) e = at i e (eqb k i) refl
    by (AtWord c i) e = other (AtWord c i) e (λ y. not_register (AtWord c i) k (omega arith) y)
    by (AtLate c) e = other (AtLate c) e (λ y. not_register (AtLate c) k (omega arith) y)
    by Nowhere e = other Nowhere e (λ y. not_register Nowhere k (omega arith) y)

module _ (s : State) (z : Sized s) (a v : ℕ) (t : is_taken (write_of s a v).answer ≡ true) (j x : ℕ) where
  function-now : ((i : ℕ) → place a ≡ AtRegister i → cfsr_of j ≡ i → field 4 v (4 * (j % 4)) ≡ x) → ((p : Place) → place a ≡ p → p ≢ AtRegister (cfsr_of j) → function s j ≡ x) → function (does (Writes a v) s) j ≡ x
  unfolding function
  function-now f g = reg-now s z a v t (cfsr_of j) (omega (arith, cfsr-range j)) (inl (omega (arith, cfsr-range j))) (λ u. field 4 u (4 * (j % 4))) x f g

  priority-now : ((i : ℕ) → place a ≡ AtRegister i → cpr_of j ≡ i → field 2 v (2 * (j % 8)) ≡ x) → ((p : Place) → place a ≡ p → p ≢ AtRegister (cpr_of j) → priority s j ≡ x) → priority (does (Writes a v) s) j ≡ x
  unfolding priority
  priority-now f g = reg-now s z a v t (cpr_of j) (omega (arith, cpr-range j)) (inr (omega (arith, cpr-range j))) (λ u. field 2 u (2 * (j % 8))) x f g

-- one run alone
aside-taken : (r : Row) (s t : State) (a v : ℕ) → Sized s → is_taken (write_of s a v).answer ≡ true → LeavesAlone r s v (place a) → Fields r s t → Fields r (does (Writes a v) s) t
unfolding LeavesAlone
aside-taken r s t a v z e h x =
    record {
      functions = λ j m. function-now s z a v e j (function t j) (λ i p k. (subst (LeavesAlone r s v) p h j m).0 k ∙ x.functions j m) (λ p q n. x.functions j m);
      priorities = λ j m. priority-now s z a v e j (priority t j) (λ i p k. (subst (LeavesAlone r s v) p h j m).2 k ∙ x.priorities j m) (λ p q n. x.priorities j m);
    }

fields-aside : (r : Row) (y : Act) (s t : State) → Sized s → Aside r y s → Fields r s t → Fields r (does y s) t
unfolding Aside does write_of
fields-aside r Ticks s t z h x = absurd h
fields-aside r (Writes a v) s t z h x = by (is_taken (write_of s a v).answer) refl
  where
    by : (b : Bool) → is_taken (write_of s a v).answer ≡ b → Fields r (does (Writes a v) s) t
    by true e = aside-taken r s t a v z e (h e) x
    by false e = subst (λ w. Fields r w t) (sym (kept (gate s a v) s e)) x
fields-aside r Nothing s t z h x = x

fields-sym : (r : Row) (s t : State) → Fields r s t → Fields r t s
fields-sym r s t x = record { functions = λ j m. sym (x.functions j m); priorities = λ j m. sym (x.priorities j m) }

-- a write that both take
fields-both : (r : Row) (s t : State) (a b v w : ℕ) → Sized s → Sized t → is_taken (write_of s a v).answer ≡ true → is_taken (write_of t b w).answer ≡ true
    → place a ≡ place b → SameFor r v w (place a) → Fields r s t → Fields r (does (Writes a v) s) (does (Writes b w) t)
unfolding SameFor
fields-both r s t a b v w z y e f g o x =
    record {
      functions = λ j m. function-now s z a v e j (function (does (Writes b w) t) j)
          (λ i p k. sym (function-now t y b w f j (field 4 v (4 * (j % 4))) (λ n q l. sym ((subst (SameFor r v w) p o j m).0 k)) (λ q u n. absurd (n (sym u ∙ sym g ∙ p ∙ ap AtRegister (sym k))))))
          (λ p q n. sym (function-now t y b w f j (function s j) (λ i u k. absurd (n (sym q ∙ g ∙ u ∙ ap AtRegister (sym k)))) (λ u k l. sym (x.functions j m))));
      priorities = λ j m. priority-now s z a v e j (priority (does (Writes b w) t) j)
          (λ i p k. sym (priority-now t y b w f j (field 2 v (2 * (j % 8))) (λ n q l. sym ((subst (SameFor r v w) p o j m).2 k)) (λ q u n. absurd (n (sym u ∙ sym g ∙ p ∙ ap AtRegister (sym k))))))
          (λ p q n. sym (priority-now t y b w f j (priority s j) (λ i u k. absurd (n (sym q ∙ g ∙ u ∙ ap AtRegister (sym k)))) (λ u k l. sym (x.priorities j m))));
    }

both-felt : (r : Row) (s t : State) (a b v w : ℕ) → Fields r s t → is_taken (write_of s a v).answer ≡ true → is_taken (write_of t b w).answer ≡ true
    → place a ≡ place b → SameFor r v w (place a) → felt_of r (Writes a v) s ≡ felt_of r (Writes b w) t
unfolding felt_of
both-felt r s t a b v w x e f g o = rw (e, f) (same-felt-at r s t v w (place a) x o ∙ ap (felt_at r t w) g)

ticks-fields : (r : Row) (s t : State) → Fields r s t → Fields r (does Ticks s) (does Ticks t)
unfolding does
ticks-fields r s t x = fields-tick r s t x

good-act : (x : Act) (xs : List Act) (s : State) → Words (x ∷ xs) → Good s → Good (does x s) × Words xs
unfolding Words does
good-act Ticks xs s w g = (good-tick s g, w)
good-act (Writes a v) xs s w g = (good-write a v s w.0 g, w.1)
good-act Nothing xs s w g = (g, w)

pub abreast-felt : (r : Row) (s t : State) (xs ys : List Act) → Good s → Good t → Words xs → Words ys → Fields r s t → Abreast r s t xs ys → felt r s xs ≡ felt r t ys
unfolding felt felt_of
abreast-felt r s t [] [] g h u w x ended = refl
abreast-felt r s t (Ticks ∷ xs) (Ticks ∷ ys) g h u w x (ticked d) =
    let p : Good (does Ticks s) × Words xs = good-act Ticks xs s u g in
    let q : Good (does Ticks t) × Words ys = good-act Ticks ys t w h in
    ap (λ l. felt_of r Ticks s ++ l) (abreast-felt r (does Ticks s) (does Ticks t) xs ys p.0 q.0 p.1 q.1 (ticks-fields r s t x) d)
abreast-felt r s t (a ∷ xs) ys g h u w x (first m d) =
    let p : Good (does a s) × Words xs = good-act a xs s u g in
    rw (aside-unfelt r a s m) (abreast-felt r (does a s) t xs ys p.0 h p.1 w (fields-aside r a s t g.0.sized m x) d)
abreast-felt r s t xs (b ∷ ys) g h u w x (second m d) =
    let q : Good (does b t) × Words ys = good-act b ys t w h in
    rw (aside-unfelt r b t m) (abreast-felt r s (does b t) xs ys g q.0 u q.1 (fields-sym r _ _ (fields-aside r b t s h.0.sized m (fields-sym r s t x))) d)
abreast-felt r s t (Writes a v ∷ xs) (Writes b w ∷ ys) g h u y x (both e f n o d) =
    let p : Good (does (Writes a v) s) × Words xs = good-act (Writes a v) xs s u g in
    let q : Good (does (Writes b w) t) × Words ys = good-act (Writes b w) ys t y h in
    rw (both-felt r s t a b v w x e f n o)
    (ap (λ l. felt_of r (Writes b w) t ++ l) (abreast-felt r (does (Writes a v) s) (does (Writes b w) t) xs ys p.0 q.0 p.1 q.1 (fields-both r s t a b v w g.0.sized h.0.sized e f n o x) d))
