-- Every deed that the gate makes is good: what it changes is there.
use Prim.Native.Nat.{ℕ, ◌-◌, ◌*◌, ◌≤◌, ◌%◌}
use mathlib.Core.Bool.{◌&&◌}
use mathlib.Core.Path.{◌≡◌, subst}
use native.Mathlib.Omega.{arith}
use lib.Dec.{eqb, leb}
use borrow.Author.Tests.{leb-true}
use Rattle.words.proofs.ChoiceLaws.{pick-cases, ask-cases, and_left}
use Rattle.unit.specs.declared.State.{State}
use Rattle.unit.specs.declared.Deed.{Deed}
use Rattle.unit.specs.declared.Deed.TheVariants.{Request}
use Rattle.unit.specs.declared.Place.{Place}
use Rattle.unit.specs.declared.Place.TheVariants.{AtRegister, AtWord, AtLate, Nowhere}
use Rattle.unit.specs.TheUnit.{all, cisr, exists, stepping}
use Rattle.unit.specs.Gate.{Asked, Yes, No, place, is_free, target_good, keeps_or_free, ask_channels, verdict_of, ask_register, ask_word, ask_place, gate}
use Rattle.unit.proofs.Places.{PlaceGood, place-good, gate-place}
use Rattle.deeds.specs.Good.{DeedGood}
use Rattle.std.specs.Prelude.{Err, Ok}
use Rattle.unit.specs.Refusals.{Verdict}

unfoldable pub VerdictGood : Verdict → Type 0
VerdictGood (Ok d) = DeedGood d
VerdictGood (Err n) = Unit {0}

requests-good : (x : Asked) (a v : ℕ) → (a ≤ 8) × (a % 8 ≡ 0) → VerdictGood (verdict_of x (Request a v))
unfolding VerdictGood DeedGood verdict_of
requests-good (Yes s) a v h = h
requests-good (No n) a v h = tt

place-asked : (s : State) (p : Place) (v : ℕ) → PlaceGood p → VerdictGood (ask_place s p v)
unfolding VerdictGood DeedGood PlaceGood ask_place ask_register ask_word
place-asked s (AtRegister i) v h =
    pick-cases VerdictGood (eqb i cisr) (λ t. tt)
    (λ t. pick-cases VerdictGood (leb 1 i && leb i 4) (λ u. ask-cases VerdictGood (all 4 (4 * (4 - i)) (keeps_or_free s v)) _ _ tt (λ w. omega arith))
    (λ u. pick-cases VerdictGood (leb 7 i && leb i 8)
    (λ w. let l : 7 ≤ i = leb-true 7 i (and_left (leb 7 i) (leb i 8) w) in requests-good (ask_channels 8 (8 * (8 - i)) v s) (8 * (8 - i)) v (omega arith, omega arith))
    (λ w. omega arith)))
place-asked s (AtWord c i) v h =
    pick-cases VerdictGood (exists c i)
    (λ t. pick-cases VerdictGood (eqb i 3 && stepping s c) (λ u. ask-cases VerdictGood (target_good s c v) _ _ tt (λ w. omega arith)) (λ u. ask-cases VerdictGood (is_free s c) _ _ tt (λ w. omega arith)))
    (λ t. tt)
place-asked s (AtLate c) v h = tt
place-asked s Nowhere v h = tt

pub gate-good : (s : State) (a v : ℕ) → VerdictGood (gate s a v)
gate-good s a v = rw (gate-place s a v) (place-asked s (place a) v (place-good a))

pub deed-good : (s : State) (a v : ℕ) (d : Deed) → gate s a v ≡ Ok d → DeedGood d
unfolding VerdictGood
deed-good s a v d e = subst VerdictGood e (gate-good s a v)
