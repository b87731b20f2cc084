-- How long the printed values are.
use Rattle.std.proofs.Common.{ℕ, zero, suc, ◌+◌, ◌-◌, ◌*◌, ◌≤◌, Bool, true, false, if◌then◌else◌, Option, Some, None, option_map, List, [], length, arith, length-append}
use Rattle.words.specs.Field.{bit_of, bit_value}
use Rattle.unit.specs.declared.State.{State}
use Rattle.unit.specs.TheUnit.{interrupt_line}
use Rattle.text.specs.Ascii.{ascii}
use Rattle.text.specs.Printing.{decimal}
use Rattle.text.proofs.LengthLaws.{decimal-short}
use Rattle.signals.specs.Signals.{position_of, binary, vector, wire_line, vector_line, wire_value, vector_value, pin_values, position_values, values}

-- ---- one signal

none_or : (same : Bool) (line : List ℕ) (k : ℕ) → length line ≤ k → length (if same then [] else line) ≤ k
none_or true line k h = omega arith
none_or false line k h = h

level-short : (on : Bool) → length (decimal (bit_value on)) ≤ 1
level-short true = decimal-short.0 0 1 (omega arith)
level-short false = decimal-short.0 0 0 (omega arith)

wire-short : (old : Option Bool) (on : Bool) (id : ℕ) → length (wire_value old on id) ≤ 3
unfolding wire_value wire_line
wire-short old on id = none_or _ (wire_line on id) 3 (rw length-append (omega (arith, level-short on)))

binary-short : (n w : ℕ) → length (binary n w) ≤ n
unfolding binary
binary-short zero w = omega arith
binary-short (suc n) w = rw length-append (omega (arith, level-short (bit_of w (15 - n)), binary-short n w))

word-short : (v : Option ℕ) → length (vector v) ≤ 17
unfolding vector ascii
word-short (Some w) = omega (arith, binary-short 16 w)
word-short None = omega arith

vector-short : (old : Option (Option ℕ)) (v : Option ℕ) (id : ℕ) → length (vector_value old v id) ≤ 20
unfolding vector_value vector_line
vector-short old v id = none_or _ (vector_line v id) 20 (rw length-append (omega (arith, word-short v)))

-- ---- all of them

pins-short : (n : ℕ) (old : Option ℕ) (w : ℕ) → length (pin_values n old w) ≤ n * 3
unfolding pin_values
pins-short zero old w = omega arith
pins-short (suc c) old w = rw length-append (omega (arith, pins-short c old w, wire-short (option_map (λ o. bit_of o c) old) (bit_of w c) (97 + c)))

positions-short : (n : ℕ) (old : Option State) (s : State) → length (position_values n old s) ≤ n * 20
unfolding position_values
positions-short zero old s = omega arith
positions-short (suc c) old s =
    rw length-append (omega (arith, positions-short c old s, vector-short (option_map (λ o. position_of o c) old) (position_of s c) (65 + c)))

pub values-short : (old : Option State) (s : State) → length (values old s) ≤ 391
unfolding values
values-short old s =
    let p = pins-short 16 (option_map (λ o. o.pins) old) s.pins in
    let t = vector-short (option_map (λ o. Some o.timers.tcr1) old) (Some s.timers.tcr1) 33 in
    let q = positions-short 16 old s in
    let l = wire-short (option_map interrupt_line old) (interrupt_line s) 34 in
    simp length-append (omega arith)
