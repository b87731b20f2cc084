use mathlib.Core.Path.{◌≡◌}
use Rattle.std.specs.Prelude.{Some}
use Rattle.numeral.specs.Decimal.{numeral_of}
use Rattle.numeral.proofs.scan.Given as goal

abbrev pub invariant-loop-b : goal.invariant-loop-b
invariant-loop-b l = numeral_of l.b-index l.text ≡ Some l.n
