-- Paper 02, #105: what it asks of the ticks and writes of two runs, side by side and act by act.
use Rattle.std.specs.Prelude.{ℕ, ◌*◌, ◌%◌, ◌<◌, true, false, List, [], ◌∷◌, ◌⊎◌, ◌≡◌}
use Rattle.words.specs.Field.{field}
use Rattle.unit.specs.declared.State.{State}
use Rattle.unit.specs.TheUnit.{cfsr_of, hsrr_of, cpr_of, function, priority, exists}
use Rattle.unit.specs.declared.Place.{Place}
use Rattle.unit.specs.declared.Place.TheVariants.{AtRegister, AtWord, AtLate, Nowhere}
use Rattle.unit.specs.Gate.{place}
use Rattle.unit.specs.Calls.{is_taken, write_of}
use Rattle.history.specs.Moments.{Act, Ticks, Writes, Nothing, does}
use Rattle.isolation.specs.Row.{Row, in_row}

-- v and w, written at one place, are the same for the row: the same value, or of a shared word the same fields of its channels
unfoldable pub SameFor : Row → ℕ → ℕ → Place → Type 0
SameFor r v w (AtRegister i) =
    (j : ℕ) → in_row r j ≡ true
    → (cfsr_of j ≡ i → field 4 v (4 * (j % 4)) ≡ field 4 w (4 * (j % 4)))
    × (hsrr_of j ≡ i → field 2 v (2 * (j % 8)) ≡ field 2 w (2 * (j % 8)))
    × (cpr_of j ≡ i → field 2 v (2 * (j % 8)) ≡ field 2 w (2 * (j % 8)))
SameFor r v w (AtWord c i) = v ≡ w
SameFor r v w (AtLate k) = Unit {0}
SameFor r v w Nowhere = Unit {0}

-- v, written at a place, leaves the row alone: it is no word of its channels, and their fields of a shared word are written as they
-- stand, in HSRR 00 or 01
unfoldable pub LeavesAlone : Row → State → ℕ → Place → Type 0
LeavesAlone r s v (AtRegister i) =
    (j : ℕ) → in_row r j ≡ true
    → (cfsr_of j ≡ i → field 4 v (4 * (j % 4)) ≡ function s j)
    × (hsrr_of j ≡ i → field 2 v (2 * (j % 8)) < 2)
    × (cpr_of j ≡ i → field 2 v (2 * (j % 8)) ≡ priority s j)
LeavesAlone r s v (AtWord c i) = (in_row r c ≡ false) ⊎ (exists c i ≡ false)
LeavesAlone r s v (AtLate k) = Unit {0}
LeavesAlone r s v Nowhere = Unit {0}

-- what one run may do without the other: nothing, a write that is refused, one that leaves the row alone
unfoldable pub Aside : Row → Act → State → Type 0
Aside r Ticks s = ⊥
Aside r (Writes a v) s = is_taken (write_of s a v).answer ≡ true → LeavesAlone r s v (place a)
Aside r Nothing s = Unit {0}

-- the runs go on from s and t with the same ticks and, between them in the same order, accepted writes that are the same for the row
pub data Abreast (r : Row) : State → State → List Act → List Act → Type 0 where
  ended : {s t : State} → Abreast r s t [] []
  ticked : {s t : State} {xs ys : List Act} → Abreast r (does Ticks s) (does Ticks t) xs ys → Abreast r s t (Ticks ∷ xs) (Ticks ∷ ys)
  first : {s t : State} {x : Act} {xs ys : List Act} → Aside r x s → Abreast r (does x s) t xs ys → Abreast r s t (x ∷ xs) ys
  second : {s t : State} {y : Act} {xs ys : List Act} → Aside r y t → Abreast r s (does y t) xs ys → Abreast r s t xs (y ∷ ys)
  both : {s t : State} {a b v w : ℕ} {xs ys : List Act} → is_taken (write_of s a v).answer ≡ true → is_taken (write_of t b w).answer ≡ true
      → place a ≡ place b → SameFor r v w (place a) → Abreast r (does (Writes a v) s) (does (Writes b w) t) xs ys
      → Abreast r s t (Writes a v ∷ xs) (Writes b w ∷ ys)
