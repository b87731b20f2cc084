use mathlib.Core.Path.{sym, subst, ◌∙◌}
use native.Mathlib.Omega.{arith}
use Rattle.words.specs.Choice.{ask}
use Rattle.unit.specs.Gate.{in_list, is_place}
use Rattle.unit.specs.Calls.{read_of, word_at}
use Rattle.unit.proofs.Places.{PlaceGood, place-good}
use Rattle.deeds.proofs.Numbered.{read-numbered}
use Rattle.deeds.proofs.read.Goals as goal

pub reg-requires : goal.reg-requires
unfolding PlaceGood
reg-requires c =
    let h = subst PlaceGood (sym c.place.ensures ∙ c.in-AtRegister.is) (place-good _) in
    omega (arith, h)

pub returns-then-not-exists : goal.returns-then-not-exists
unfolding read_of in_list is_place word_at ask
returns-then-not-exists c =
    let n = read-numbered _ _ _ (rw (← c.place.ensures, c.in-AtWord.is, ← c.exists.ensures, c.if-not-exists.true)) in
    record { reading = n.0; number = n.1; word = n.2 }

pub word-requires : goal.word-requires
unfolding PlaceGood
word-requires c =
    let h = subst PlaceGood (sym c.place.ensures ∙ c.in-AtWord.is) (place-good _) in
    record { word = h.1 }

pub invariant_of-word : goal.invariant_of-word
unfolding PlaceGood
invariant_of-word c =
    let h = subst PlaceGood (sym c.place.ensures ∙ c.in-AtWord.is) (place-good _) in
    record { in_range = h.0 }

pub invariant_of-late : goal.invariant_of-late
unfolding PlaceGood
invariant_of-late c =
    let h = subst PlaceGood (sym c.place.ensures ∙ c.in-AtLate.is) (place-good _) in
    omega (arith, h)

pub returns-in-AtRegister : goal.returns-in-AtRegister
unfolding read_of in_list is_place word_at ask
returns-in-AtRegister c =
    let n = read-numbered _ _ _ (rw (c.reg.ensures, ← c.place.ensures, c.in-AtRegister.is)) in
    record { reading = n.0; number = n.1; word = n.2 }

pub returns-else-not-exists : goal.returns-else-not-exists
unfolding read_of in_list is_place word_at ask
returns-else-not-exists c =
    let n = read-numbered _ _ _ (rw (c.word.ensures, ← c.place.ensures, c.in-AtWord.is, ← c.exists.ensures, c.if-not-exists.false)) in
    record { reading = n.0; number = n.1; word = n.2 }

pub returns-in-AtLate : goal.returns-in-AtLate
unfolding read_of in_list is_place word_at ask
returns-in-AtLate c =
    let n = read-numbered _ _ _ (rw (c.late.ensures, ← c.place.ensures, c.in-AtLate.is)) in
    record { reading = n.0; number = n.1; word = n.2 }

pub returns-in-Nowhere : goal.returns-in-Nowhere
unfolding read_of in_list is_place word_at ask
returns-in-Nowhere c =
    let n = read-numbered _ _ _ (rw (← c.place.ensures, c.in-Nowhere.is)) in
    record { reading = n.0; number = n.1; word = n.2 }
