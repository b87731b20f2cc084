-- What holds of the numbers read, beside how they are read.
use Rattle.std.specs.Prelude.{ℕ, ◌+◌, ◌-◌, ◌*◌, ◌^◌, ◌≤◌, Bool, true, false, ◌&&◌, List, [], ◌∷◌, ◌++◌, ◌≡◌, length, Some, Float}
use Rattle.std.specs.Float.{binary64}
use Rattle.std.specs.Float.Ieee.{round}
use Rattle.numeral.specs.Decimal.{is_digit, decimal_of, short_of}

-- every byte is a digit
unfoldable pub all_digits : List ℕ → Bool
all_digits [] = true
all_digits (b ∷ bytes) = is_digit b && all_digits bytes

-- the whole number that digits are: each counts ten to the power of how many follow it
unfoldable pub number : List ℕ → ℕ
number [] = 0
number (b ∷ bytes) = (b - 48) * 10 ^ length bytes + number bytes

-- up to fifteen digits are their whole number
abbrev pub DecimalWhole : Type 0
DecimalWhole = (ds : List ℕ) → all_digits ds ≡ true → 1 ≤ length ds → length ds ≤ 15 → decimal_of ds ≡ Some (round binary64 false (number ds) 1)

-- with a point among them they are that number over ten to the power of how many follow the point
abbrev pub DecimalParts : Type 0
DecimalParts = (ds fs : List ℕ) → all_digits ds ≡ true → all_digits fs ≡ true → 1 ≤ length ds → 1 ≤ length fs → length ds + length fs ≤ 15
    → decimal_of (ds ++ 46 ∷ fs) ≡ Some (round binary64 false (number (ds ++ fs)) (10 ^ length fs))

-- no longer text is a number: fifteen digits and the point, or two digits
pub record NoLonger : Type 0 where
  pub decimal : (text : List ℕ) (x : Float) → decimal_of text ≡ Some x → length text ≤ 16
  pub short : (text : List ℕ) (n : ℕ) → short_of text ≡ Some n → length text ≤ 2
