-- Paper 02, #105 as #107 restates it: a motor on 4 and 5 by itself, and the same with two channels beside it that are served before it.
use Rattle.std.specs.Prelude.{ℕ, ◌+◌, true, false, List, [], ◌∷◌, ◌++◌, ◌≡◌, replicate}
use Rattle.unit.specs.TheUnit.{pin, last}
use Rattle.unit.specs.Calls.{Call, Write, Advance}
use Rattle.history.specs.Moments.{Ticks, acts, Typed}
use Rattle.isolation.specs.Row.{Row}
use Rattle.isolation.specs.OneMove.{Course, at_request, at_start, at_now, CourseOf, Agree}

abbrev pub row : Row
row = record { first = 4; final = 5 }

-- N = 1, P(1) = 128, from 0 to 1, its channels initialised in two ticks
abbrev pub motor : List Call
motor =
    Write 0xf40 0x0081 ∷ Write 0xf42 0xcccc ∷ Write 0xf48 0x0001 ∷ Write 0xf4a 0x0105 ∷ Write 0xf50 0x0082 ∷ Write 0xf52 0x6666 ∷ Write 0xf56 128
    ∷ Write 0xe1a 0x0a00 ∷ Advance 2 (replicate 2 0) ∷ Write 0xf46 1 ∷ []

abbrev pub by_itself : List Call
by_itself = Write 0xe10 0x00dd ∷ Write 0xe1e 0x0f00 ∷ motor

-- with channels 0 and 1 ready to be initialised too
abbrev pub among_others : List Call
among_others =
    Write 0xe12 0x00dd ∷ Write 0xf00 0x0081 ∷ Write 0xf02 0x8000 ∷ Write 0xf10 0x0081 ∷ Write 0xf12 0x8000
    ∷ Write 0xe10 0x00dd ∷ Write 0xe1e 0x0f0f ∷ motor

-- after n counts
abbrev pub alone : ℕ → Course
alone n =
    record {
      calls = by_itself ++ (Write 0xe1a 0x0300 ∷ Advance (1 + n) (replicate (1 + n) 0) ∷ []);
      before = acts by_itself;
      a = 0xe1a;
      v = 0x0300;
      waits = [];
      since = replicate n Ticks;
      rest = [];
    }

-- the word that asks the motor to step asks for both initialises as well, and their slots come first
abbrev pub crowded : ℕ → Course
crowded n =
    record {
      calls = among_others ++ (Write 0xe1a 0x030a ∷ Advance (3 + n) (replicate (3 + n) 0) ∷ []);
      before = acts among_others;
      a = 0xe1a;
      v = 0x030a;
      waits = Ticks ∷ Ticks ∷ [];
      since = replicate n Ticks;
      rest = [];
    }

-- Both are courses of the claim; the first services are two ticks apart; after 128 counts pin 4 has changed in both, and the pin words differ.
pub record Moves : Type 0 where
  pub first : CourseOf Typed row 4 (alone 128)
  pub second : CourseOf Typed row 4 (crowded 128)
  pub was : (pin (at_start (alone 128)) 4 ≡ true) × (pin (at_start (crowded 128)) 4 ≡ true)
  pub changed : (pin (at_now (alone 128)) 4 ≡ false) × (pin (at_now (crowded 128)) 4 ≡ false)
  pub other : ((at_now (alone 128)).pins ≡ 0x0000) × ((at_now (crowded 128)).pins ≡ 0x0003)
  -- what the claim says of them
  pub agree : Agree 4 (at_now (alone 128)) (at_now (crowded 128)) (last (at_request (alone 128)) 4)
