use Rattle.std.proofs.Common.{Err}
use Rattle.unit.specs.declared.Refusal.TheVariants.{NoSuchAddress}
use mathlib.Core.Path.{◌≡◌, refl, sym, subst, ◌∙◌}
use Rattle.unit.proofs.Places.{gate-place, PlaceGood, place-good}
use Rattle.unit.specs.Gate.{ask_place, gate}
use Rattle.pack.specs.Packing.{state_in}
use Rattle.gate.proofs.Numbered.{numbered}
use Rattle.gate.proofs.verdict.Goals as goal

pub ask_word-requires : goal.ask_word-requires
unfolding PlaceGood
ask_word-requires c =
    let h = subst PlaceGood (sym c.place.ensures ∙ c.in-AtWord.is) (place-good _) in
    record { word = h.1 }

pub invariant_of-ask_word : goal.invariant_of-ask_word
unfolding PlaceGood
invariant_of-ask_word c =
    let h = subst PlaceGood (sym c.place.ensures ∙ c.in-AtWord.is) (place-good _) in
    record { in_range = h.0 }

pub returns-in-AtRegister : goal.returns-in-AtRegister
unfolding ask_place
returns-in-AtRegister c =
    let e : _ ≡ gate (state_in c.args.s.now) c.args.a c.args.v = rw (gate-place, ← c.place.ensures, c.in-AtRegister.is) c.ask_register.ensures in
    record { verdict = e; number = numbered _ _ _ _ e }

pub returns-in-AtWord : goal.returns-in-AtWord
unfolding ask_place
returns-in-AtWord c =
    let e : _ ≡ gate (state_in c.args.s.now) c.args.a c.args.v = rw (gate-place, ← c.place.ensures, c.in-AtWord.is) c.ask_word.ensures in
    record { verdict = e; number = numbered _ _ _ _ e }

pub returns-in-AtLate : goal.returns-in-AtLate
unfolding ask_place
returns-in-AtLate c =
    let e : Err NoSuchAddress ≡ gate (state_in c.args.s.now) c.args.a c.args.v = rw (gate-place, ← c.place.ensures, c.in-AtLate.is) refl in
    record { verdict = e; number = numbered _ _ _ _ e }

pub returns-in-Nowhere : goal.returns-in-Nowhere
unfolding ask_place
returns-in-Nowhere c =
    let e : Err NoSuchAddress ≡ gate (state_in c.args.s.now) c.args.a c.args.v = rw (gate-place, ← c.place.ensures, c.in-Nowhere.is) refl in
    record { verdict = e; number = numbered _ _ _ _ e }
