-- Floats that are not below zero.
use Rattle.std.specs.Prelude.{Bool, false, not, Float}
use Rattle.std.specs.Float.{nan, inf, fin}

-- a number without a sign, or infinity
abbrev pub is_plain : Float → Bool
is_plain nan = false
is_plain (inf s) = not s
is_plain (fin s m e) = not s
