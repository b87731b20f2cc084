-- A fixed row of channels, and what of a run it feels. Paper 02, #105.
use Rattle.std.specs.Prelude.{ℕ, zero, suc, ◌+◌, ◌-◌, ◌*◌, ◌%◌, ◌≤◌, ◌<◌, Bool, true, not, ◌&&◌, List, [], ◌∷◌, ◌++◌, ◌⊎◌, ◌≡◌, leb, eqb}
use Rattle.words.specs.Choice.{pick}
use Rattle.words.specs.Field.{field}
use Rattle.unit.specs.declared.State.{State}
use Rattle.unit.specs.TheUnit.{priority, function, exists, last}
use Rattle.unit.specs.declared.Place.{Place}
use Rattle.unit.specs.declared.Place.TheVariants.{AtRegister, AtWord, AtLate, Nowhere}
use Rattle.unit.specs.Gate.{place}
use Rattle.unit.specs.Calls.{is_taken, write_of}
use Rattle.history.specs.Moments.{Act, Ticks, Writes, Nothing, does, is_step_of}

-- the channels from `first` to `final`
pub record Row : Type 0 where
  pub first : ℕ
  pub final : ℕ

unfoldable pub in_row : Row → ℕ → Bool
in_row r j = leb r.first j && leb j r.final

-- ---- what the row feels of a run, in the order in which it happens

-- a tick; an existing parameter word of one of its channels that is written, with its channel, its number and the value; a field of
-- CFSR or CPR that changes, and a request, with its channel and the value
pub data Felt : Type 0 where
  Passes : Felt
  Word : ℕ → ℕ → ℕ → Felt
  Function : ℕ → ℕ → Felt
  Priority : ℕ → ℕ → Felt
  Request : ℕ → ℕ → Felt

-- of n channels from a on, the lowest first
unfoldable pub gather : ℕ → ℕ → (ℕ → List Felt) → List Felt
gather zero a f = []
gather (suc n) a f = gather n a f ++ f (a + n)

-- a CFSR word v: the field of j, where it differs
unfoldable pub new_function : Row → State → ℕ → ℕ → List Felt
new_function r s v j =
    pick (in_row r j && not (eqb (field 4 v (4 * (j % 4))) (function s j))) (Function j (field 4 v (4 * (j % 4))) ∷ []) []

-- a CPR word v
unfoldable pub new_priority : Row → State → ℕ → ℕ → List Felt
new_priority r s v j =
    pick (in_row r j && not (eqb (field 2 v (2 * (j % 8))) (priority s j))) (Priority j (field 2 v (2 * (j % 8))) ∷ []) []

-- an HSRR word v: 00 and 01 leave j alone
unfoldable pub new_request : Row → ℕ → ℕ → List Felt
new_request r v j = pick (in_row r j && leb 2 (field 2 v (2 * (j % 8)))) (Request j (field 2 v (2 * (j % 8))) ∷ []) []

-- a taken write of v at a place; CIER, CISR and HSQR do not concern the row
unfoldable pub felt_at : Row → State → ℕ → Place → List Felt
felt_at r s v (AtRegister i) =
    pick (leb 1 i && leb i 4) (gather 4 (4 * (4 - i)) (new_function r s v))
    (pick (leb 7 i && leb i 8) (gather 8 (8 * (8 - i)) (new_request r v))
    (pick (leb 9 i && leb i 10) (gather 8 (8 * (10 - i)) (new_priority r s v)) []))
felt_at r s v (AtWord c i) = pick (in_row r c && exists c i) (Word c i v ∷ []) []
felt_at r s v (AtLate k) = []
felt_at r s v Nowhere = []

-- of an act: nothing of a read, nor of a call that is refused
unfoldable pub felt_of : Row → Act → State → List Felt
felt_of r Ticks s = Passes ∷ []
felt_of r (Writes a v) s = pick (is_taken (write_of s a v).answer) (felt_at r s v (place a)) []
felt_of r Nothing s = []

-- of all that happens, from s on
unfoldable pub felt : Row → State → List Act → List Felt
felt r s [] = []
felt r s (x ∷ xs) = felt_of r x s ++ felt r (does x s) xs

-- ---- groups inside and outside

-- the channels from the primary c to its last one are all of the row, or none is: they end below it or begin above it
unfoldable pub LiesApart : Row → State → ℕ → Type 0
LiesApart r s c = ((r.first ≤ c) × (last s c ≤ r.final)) ⊎ ((last s c < r.first) ⊎ (r.final < c))

-- so lies the group of each step request that is taken from s on, at the time of the request
unfoldable pub Apart : Row → State → List Act → Type 0
Apart r s [] = Unit {0}
Apart r s (Ticks ∷ xs) = Apart r (does Ticks s) xs
Apart r s (Writes a v ∷ xs) =
    ((c : ℕ) → is_step_of c v (place a) ≡ true → is_taken (write_of s a v).answer ≡ true → LiesApart r s c)
    × Apart r (does (Writes a v) s) xs
Apart r s (Nothing ∷ xs) = Apart r s xs
