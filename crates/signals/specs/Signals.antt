-- What is shown of a state: the pins, TCR1, the position of each bound primary and the interrupt line. Each signal has a value and
-- one character for its name: `a` to `p` (97 on) the pins, `!` (33) TCR1, `A` to `P` (65 on) the positions, `"` (34) the line.
use Rattle.std.specs.Prelude.{ℕ, zero, suc, ◌+◌, ◌-◌, Bool, if◌then◌else◌, nat_eq, Option, Some, None, option_map, List, [], ◌∷◌, ◌++◌}
use Rattle.std.proofs.Math.Bool.{beq}
use Rattle.std.specs.Option.{option_eq}
use Rattle.words.specs.Field.{bit_of, bit_value}
use Rattle.unit.specs.declared.State.{State}
use Rattle.unit.specs.TheUnit.{interrupt_line, stepping, position}
use Rattle.text.specs.Ascii.{ascii}
use Rattle.text.specs.Printing.{decimal}

-- the position while c is a bound primary
unfoldable pub position_of : State → ℕ → Option ℕ
position_of s c = if stepping s c then Some (position s c) else None

-- ---- how a value is printed

-- the highest n of the sixteen binary digits of a word
unfoldable pub binary : ℕ → ℕ → List ℕ
binary zero w = []
binary (suc n) w = binary n w ++ decimal (bit_value (bit_of w (15 - n)))

-- a word, or `x` where there is none
unfoldable pub vector : Option ℕ → List ℕ
vector (Some w) = ascii "b" ++ binary 16 w
vector None = ascii "bx"

-- a wire's value, 0 or 1, and its character
unfoldable pub wire_line : Bool → ℕ → List ℕ
wire_line on id = decimal (bit_value on) ++ (id ∷ 10 ∷ [])

-- a vector's value, a space (32) and its character
unfoldable pub vector_line : Option ℕ → ℕ → List ℕ
vector_line v id = vector v ++ (32 ∷ id ∷ 10 ∷ [])

-- ---- what is printed: all values, or where there is an old state those that differ from it

-- a wire's line, or nothing
unfoldable pub wire_value : Option Bool → Bool → ℕ → List ℕ
wire_value old on id = if option_eq beq old (Some on) then [] else wire_line on id

-- a vector's line, or nothing
unfoldable pub vector_value : Option (Option ℕ) → Option ℕ → ℕ → List ℕ
vector_value old v id = if option_eq (option_eq nat_eq) old (Some v) then [] else vector_line v id

-- the first n pins
unfoldable pub pin_values : ℕ → Option ℕ → ℕ → List ℕ
pin_values zero old w = []
pin_values (suc c) old w = pin_values c old w ++ wire_value (option_map (λ o. bit_of o c) old) (bit_of w c) (97 + c)

-- the positions of the first n channels
unfoldable pub position_values : ℕ → Option State → State → List ℕ
position_values zero old s = []
position_values (suc c) old s =
    position_values c old s ++ vector_value (option_map (λ o. position_of o c) old) (position_of s c) (65 + c)

-- the pins, TCR1, the positions and the interrupt line of a state, after an old one
unfoldable pub values : Option State → State → List ℕ
values old s =
    pin_values 16 (option_map (λ o. o.pins) old) s.pins
    ++ (vector_value (option_map (λ o. Some o.timers.tcr1) old) (Some s.timers.tcr1) 33
    ++ (position_values 16 old s
    ++ wire_value (option_map interrupt_line old) (interrupt_line s) 34))
