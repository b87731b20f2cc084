-- Texts of a sheet, and the numbers that they are, by the bit patterns of their f64.
use Rattle.std.specs.Prelude.{ℕ, Bool, true, false, ◌&&◌, List, [], ◌∷◌, ◌≡◌, eqb, Option, Some, None, Float}
use Prim.Native.String.{String}
use Rattle.std.specs.Float.{binary64}
use Rattle.std.specs.Float.Ieee.{to_bits}
use Rattle.text.specs.Ascii.{ascii}
use Rattle.numeral.specs.Decimal.{decimal_of, short_of}

-- beside a text is what it is, or none where it is no such number
pub data Text : Type 0 where
  -- a text, and the bit pattern of its decimal
  text : String → Option ℕ → Text
  -- a text, and N
  short : String → Option ℕ → Text

unfoldable pub is_pattern : Option Float → Option ℕ → Bool
is_pattern (Some x) (Some bits) = eqb (to_bits binary64 x) bits
is_pattern (Some x) None = false
is_pattern None (Some bits) = false
is_pattern None None = true

unfoldable pub is_short : Option ℕ → Option ℕ → Bool
is_short (Some m) (Some n) = eqb m n
is_short (Some m) None = false
is_short None (Some n) = false
is_short None None = true

unfoldable pub is_right : Text → Bool
is_right (text t p) = is_pattern (decimal_of (ascii t)) p
is_right (short t n) = is_short (short_of (ascii t)) n

unfoldable pub all_right : List Text → Bool
all_right [] = true
all_right (t ∷ rest) = is_right t && all_right rest

unfoldable pub texts : List Text
texts =
    text "4" (Some 0x4010000000000000) ∷
    text "4.0" (Some 0x4010000000000000) ∷
    text "0.2" (Some 0x3fc999999999999a) ∷
    text "0.01" (Some 0x3f847ae147ae147b) ∷
    text "30.0" (Some 0x403e000000000000) ∷
    text "42.9" (Some 0x4045733333333333) ∷
    text "007.50" (Some 0x401e000000000000) ∷
    text "0" (Some 0x0000000000000000) ∷
    text "0.0" (Some 0x0000000000000000) ∷
    text "123456789012345" (Some 0x42dc12218377de40) ∷
    text "999999999999999" (Some 0x430c6bf52633fff8) ∷
    text "0.00000000000001" (Some 0x3d06849b86a12b9b) ∷
    text "99999999.9999999" (Some 0x4197d783fffffff9) ∷
    text "000000000000001" (Some 0x3ff0000000000000) ∷
    text "0.30000000000000" (Some 0x3fd3333333333333) ∷
    text "" None ∷
    text "." None ∷
    text "5." None ∷
    text ".5" None ∷
    text "1.2.3" None ∷
    text "1..2" None ∷
    text "-1" None ∷
    text "+1" None ∷
    text "1e3" None ∷
    text " 1" None ∷
    text "1 " None ∷
    text "1:" None ∷
    text "1/" None ∷
    text "1,5" None ∷
    text "1234567890123456" None ∷
    text "0.000000000000001" None ∷
    text "0x10" None ∷
    text "nan" None ∷
    short "1" (Some 1) ∷
    short "07" (Some 7) ∷
    short "14" (Some 14) ∷
    short "00" (Some 0) ∷
    short "99" (Some 99) ∷
    short "" None ∷
    short "100" None ∷
    short "1.0" None ∷
    short "1." None ∷
    short "-1" None ∷
    short "1 " None ∷
    short "a" None ∷
    []

abbrev pub TextsRight : Type 0
TextsRight = all_right texts ≡ true
