-- What a number written in decimal is. Bytes are numbers; 46 is the point, 48 to 57 the digits.
use Rattle.std.specs.Prelude.{ℕ, zero, suc, ◌+◌, ◌-◌, ◌*◌, ◌^◌, ◌≤◌, ◌<◌, Bool, false, ◌&&◌, List, length, get_or, leb, ltb, eqb, Option, Some, None, option_and_then, Float}
use Rattle.std.specs.Float.{binary64}
use Rattle.std.specs.Float.Ieee.{round}
use Rattle.words.specs.Choice.{pick}
use Rattle.numeral.specs.declared.Numeral.{Numeral}
use Rattle.numeral.specs.declared.Numeral.TheVariants.{Digits, Parts}

-- the byte is one of `0` to `9`
unfoldable pub is_digit : ℕ → Bool
is_digit b = leb 48 b && leb b 57

-- the whole number with one more digit
unfoldable pub with_digit : ℕ → ℕ → ℕ
with_digit w b = w * 10 + (b - 48)

-- after n digits the byte is taken as one more: it is a digit, and there are fewer than fifteen
unfoldable pub takes : ℕ → ℕ → Bool
takes n b = is_digit b && ltb n 15

-- one more byte of a number without a point so far: a digit, or the point behind at least one digit
unfoldable pub after_digits : ℕ → ℕ → ℕ → Option Numeral
after_digits w n b =
    pick (eqb b 46)
    (pick (leb 1 n) (Some (Parts w n 0)) None)
    (pick (takes n b) (Some (Digits (with_digit w b) (n + 1))) None)

-- one more byte behind the point: a digit; n counts all digits, k those behind the point
unfoldable pub after_point : ℕ → ℕ → ℕ → ℕ → Option Numeral
after_point w n k b = pick (takes n b) (Some (Parts (with_digit w b) (n + 1) (k + 1))) None

-- one more byte of the beginning of a number
unfoldable pub with_byte : Numeral → ℕ → Option Numeral
with_byte (Digits w n) b = after_digits w n b
with_byte (Parts w n k) b = after_point w n k b

-- what the first n bytes of a text are; what is no number stays none
unfoldable pub numeral_of : ℕ → List ℕ → Option Numeral
numeral_of zero text = Some (Digits 0 0)
numeral_of (suc n) text = option_and_then (λ m. with_byte m (get_or text n 0)) (numeral_of n text)

-- no more than the digits counted, which are at most fifteen: everything read is so
abbrev pub Small : Numeral → Type 0
Small (Digits w n) = (w < 10 ^ n) × (n ≤ 15)
Small (Parts w n k) = (w < 10 ^ n) × (n ≤ 15) × (k ≤ n)

-- the f64 nearest to the whole number over ten to the power of the places, ties to even; a number has a digit, and one behind its point
unfoldable pub value_of : Numeral → Option Float
value_of (Digits w n) = pick (leb 1 n) (Some (round binary64 false w 1)) None
value_of (Parts w n k) = pick (leb 1 k) (Some (round binary64 false w (10 ^ k))) None

-- what a whole text is
unfoldable pub decimal_of : List ℕ → Option Float
decimal_of text = option_and_then value_of (numeral_of (length text) text)

-- one or two digits and no point
unfoldable pub small_of : Numeral → Option ℕ
small_of (Digits w n) = pick (leb 1 n && leb n 2) (Some w) None
small_of (Parts w n k) = None

-- what a whole text is as a short number
unfoldable pub short_of : List ℕ → Option ℕ
short_of text = option_and_then small_of (numeral_of (length text) text)
