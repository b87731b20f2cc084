-- The deeds that the gate makes: what they change is there.
use Rattle.std.specs.Prelude.{◌%◌, ◌<◌, ◌≤◌, ◌≡◌}
use Rattle.unit.specs.declared.Deed.{Deed}
use Rattle.unit.specs.declared.Deed.TheVariants.{Nothing, Parameter, Register, Keep, Request}

unfoldable pub DeedGood : Deed → Type 0
DeedGood Nothing = Unit {0}
DeedGood (Parameter at v) = at < 128
DeedGood (Register i v) = i < 12
DeedGood (Keep v) = Unit {0}
DeedGood (Request a v) = (a ≤ 8) × (a % 8 ≡ 0)
