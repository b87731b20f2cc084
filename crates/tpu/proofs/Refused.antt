-- Every refusal has a question's number.
use native.Mathlib.Omega.{arith}
use mathlib.Core.Logic.{inl, inr}
use mathlib.Core.Path.{refl}
use Rattle.std.specs.Prelude.{Err, Ok}
use Rattle.unit.specs.declared.Refusal.{Refusal}
use Rattle.unit.specs.declared.Refusal.TheVariants.{NoSuchAddress, NotFree, OtherFunction, WrongControl, WrongSpan, GroupNotReady, WrongPattern, WrongRamp, TargetTooFar, TooManyTicks, TooFast}
use Rattle.unit.specs.Refusals.{refusal_number, Answer, Reading}
use Rattle.unit.specs.Calls.{read_of, write_of, advance_of}
use Rattle.tpu.specs.Refusals.{Question, Numbered, NumberedRead, Refusals}

question : (r : Refusal) → Question (refusal_number r)
question NoSuchAddress = (omega arith, inl (omega arith))
question NotFree = (omega arith, inl (omega arith))
question OtherFunction = (omega arith, inl (omega arith))
question WrongControl = (omega arith, inl (omega arith))
question WrongSpan = (omega arith, inl (omega arith))
question GroupNotReady = (omega arith, inl (omega arith))
question WrongPattern = (omega arith, inl (omega arith))
question WrongRamp = (omega arith, inl (omega arith))
question TargetTooFar = (omega arith, inl (omega arith))
question TooManyTicks = (omega arith, inl (omega arith))
question TooFast = (omega arith, inr refl)

numbered : (a : Answer) → Numbered a
numbered (Ok u) = tt
numbered (Err r) = question r

numbered-read : (a : Reading) → NumberedRead a
numbered-read (Ok w) = tt
numbered-read (Err r) = question r

pub refusals : Refusals
refusals =
    record {
      read = λ s a. numbered-read (read_of s a);
      write = λ s a v. numbered (write_of s a v).answer;
      advance = λ s n lent. numbered (advance_of s n lent).answer;
    }
