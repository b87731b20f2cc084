use mathlib.Core.Path.{subst}
use native.Mathlib.Omega.{arith}
use lib.Dec.{le→leb}
use lib.Ieee.{in_float, of_int}
use Rattle.words.proofs.ChoiceLaws.{cases}
use Rattle.numeral.specs.Decimal.{Small, value_of}
use Rattle.numeral.proofs.NumeralLaws.{exact-power, exact-whole, rounded-once}
use Rattle.numeral.proofs.value_of.Goals as goal

pub int_to_float-result : goal.int_to_float-result
unfolding in_float
int_to_float-result c =
    let s = subst Small c.in-Digits.is c.requires in
    le→leb _ _ (exact-whole _ _ s.0 s.1)

pub returns-in-Digits : goal.returns-in-Digits
unfolding value_of of_int
returns-in-Digits c = rw c.in-Digits.is (search cases)

pub int_to_float-above : goal.int_to_float-above
unfolding in_float
int_to_float-above c =
    let s = subst Small c.in-Parts.is c.requires in
    le→leb _ _ (exact-whole _ _ s.0 s.1)

pub int_to_float-below : goal.int_to_float-below
unfolding in_float
int_to_float-below c =
    let s = subst Small c.in-Parts.is c.requires in
    rw c.pow-below.ensures (le→leb _ _ (exact-power c.in-Parts.places (omega arith)))

pub returns-in-Parts : goal.returns-in-Parts
unfolding value_of
returns-in-Parts c =
    let s = subst Small c.in-Parts.is c.requires in
    rw (c.in-Parts.is, c.pow-below.ensures, rounded-once _ _ _ s) (search cases)
