-- What is asked of a list of acts, decided by computing.
use Prim.Native.Nat.{ℕ}
use mathlib.Core.Bool.{Bool, true, false, not, ◌&&◌}
use mathlib.Core.List.{List, [], ◌∷◌}
use mathlib.Core.Path.{◌≡◌, refl, ap, sym, subst}
use mathlib.Core.Logic.{◌≢◌}
use lib.Dec.{eqb}
use borrow.Author.Tests.{eqb-true}
use Rattle.words.specs.Choice.{pick}
use Rattle.words.proofs.ChoiceLaws.{not-both, and_left, and_right}
use Rattle.motor.specs.Count.{Target, Other, is_target, Running, Keeps}
use Rattle.unit.specs.declared.State.{State}
use Rattle.unit.specs.declared.Place.{Place}
use Rattle.unit.specs.declared.Place.TheVariants.{AtRegister, AtWord, AtLate, Nowhere}
use Rattle.unit.specs.TheUnit.{is_bound}
use Rattle.unit.specs.Gate.{place}
use Rattle.unit.specs.Calls.{write_of, is_taken}
use Rattle.history.specs.Moments.{Act, Ticks, Writes, Nothing, does, priority_of, see, is_target_of, event_of, moments}
use Rattle.isolation.specs.Row.{Row, in_row}
use Rattle.isolation.specs.OneMove.{Untouched}

unfoldable pub runs : ℕ → State → List Act → Bool
runs c s [] = true
runs c s (x ∷ xs) = is_bound s c && runs c (does x s) xs

pub running : (c : ℕ) (s : State) (xs : List Act) → runs c s xs ≡ true → Running (moments c s xs)
unfolding runs Running moments see
running c s [] e = tt
running c s (x ∷ xs) e = (and_left (is_bound s c) (runs c (does x s) xs) e, running c (does x s) xs (and_right (is_bound s c) (runs c (does x s) xs) e))

unfoldable pub stays : ℕ → ℕ → State → List Act → Bool
stays l c s [] = true
stays l c s (x ∷ xs) = eqb (priority_of c s) l && stays l c (does x s) xs

pub keeps : (l c : ℕ) (s : State) (xs : List Act) → stays l c s xs ≡ true → Keeps l (moments c s xs)
unfolding stays Keeps moments see
keeps l c s [] e = tt
keeps l c s (x ∷ xs) e = (eqb-true (priority_of c s) l (and_left (eqb (priority_of c s) l) (stays l c (does x s) xs) e), keeps l c (does x s) xs (and_right (eqb (priority_of c s) l) (stays l c (does x s) xs) e))

-- the place is no target of a bound channel of the row
unfoldable pub no_aim : Row → State → Place → Bool
no_aim r s (AtRegister i) = true
no_aim r s (AtWord p i) = not (eqb i 3 && (in_row r p && is_bound s p))
no_aim r s (AtLate k) = true
no_aim r s Nowhere = true

unfoldable pub leaves_targets : Row → Act → State → Bool
leaves_targets r Ticks s = true
leaves_targets r (Writes a v) s = no_aim r s (place a)
leaves_targets r Nothing s = true

unfoldable pub leaves_all : Row → State → List Act → Bool
leaves_all r s [] = true
leaves_all r s (x ∷ xs) = leaves_targets r x s && leaves_all r (does x s) xs

no-aim : (r : Row) (s : State) (p : ℕ) (q : Place) → in_row r p ≡ true → is_bound s p ≡ true → no_aim r s q ≡ true → is_target_of p q ≡ true → ⊥
unfolding no_aim is_target_of
no-aim r s p (AtRegister i) m b e t = not-both t refl
no-aim r s p (AtWord j i) m b e t =
    let k : j ≡ p = eqb-true j p (and_left (eqb j p) (eqb i 3) t) in
    let n : eqb i 3 ≡ true = and_right (eqb j p) (eqb i 3) t in
    let x : in_row r j ≡ true = subst (λ y. in_row r y ≡ true) (sym k) m in
    let z : is_bound s j ≡ true = subst (λ y. is_bound s y ≡ true) (sym k) b in
    not-both (rw (n, x, z) at e) refl
no-aim r s p (AtLate k) m b e t = not-both t refl
no-aim r s p Nowhere m b e t = not-both t refl

no_target : (b d : Bool) → pick (b && d) Target Other ≡ Target → b ≡ true
unfolding is_target
no_target true d e = refl
no_target false d e = absurd (not-both refl (ap is_target (sym e)))

leaves : (r : Row) (x : Act) (s : State) → leaves_targets r x s ≡ true → (p : ℕ) → in_row r p ≡ true → is_bound s p ≡ true → event_of p x s ≢ Target
unfolding leaves_targets event_of is_target
leaves r Ticks s e p m b q = not-both refl (ap is_target (sym q))
leaves r (Writes a v) s e p m b q = no-aim r s p (place a) m b e (no_target (is_target_of p (place a)) (is_taken (write_of s a v).answer) q)
leaves r Nothing s e p m b q = not-both refl (ap is_target (sym q))

pub untouched : (r : Row) (s : State) (xs : List Act) → leaves_all r s xs ≡ true → Untouched r s xs
unfolding leaves_all Untouched
untouched r s [] e = tt
untouched r s (x ∷ xs) e = (leaves r x s (and_left (leaves_targets r x s) (leaves_all r (does x s) xs) e), untouched r (does x s) xs (and_right (leaves_targets r x s) (leaves_all r (does x s) xs) e))
