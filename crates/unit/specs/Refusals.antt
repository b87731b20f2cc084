-- What the calls answer, and the number of each refusal: that of the question that said no.
use Rattle.std.specs.Prelude.{ℕ, Result}
use Rattle.unit.specs.declared.Refusal.{Refusal}
use Rattle.unit.specs.declared.Refusal.TheVariants.{NoSuchAddress, NotFree, OtherFunction, WrongControl, WrongSpan, GroupNotReady, WrongPattern, WrongRamp, TargetTooFar, TooManyTicks, TooFast}
use Rattle.unit.specs.declared.Deed.{Deed}

abbrev pub refusal_number : Refusal → ℕ
refusal_number NoSuchAddress = 1
refusal_number NotFree = 2
refusal_number OtherFunction = 3
refusal_number WrongControl = 4
refusal_number WrongSpan = 5
refusal_number GroupNotReady = 6
refusal_number WrongPattern = 7
refusal_number WrongRamp = 8
refusal_number TargetTooFar = 9
refusal_number TooManyTicks = 10
refusal_number TooFast = 14

-- of a read: the word
abbrev pub Reading : Type 0
Reading = Result ℕ Refusal

-- what the gate says of a write: what is to be done
abbrev pub Verdict : Type 0
Verdict = Result Deed Refusal

-- of a write or an advance
abbrev pub Answer : Type 0
Answer = Result (Unit {0}) Refusal
