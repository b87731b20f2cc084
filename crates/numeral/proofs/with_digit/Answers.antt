use Rattle.std.proofs.Common.{◌^◌, ◌<◌}
use Rattle.std.proofs.iter.Serving.{serving}
use native.Mathlib.Omega.{arith}
use Rattle.numeral.proofs.NumeralLaws.{room_below}
use Rattle.numeral.proofs.with_digit.Goals as goal

pub then-requires : goal.then-requires
then-requires c =
    let r : (c.args.count < 15 → c.args.whole < 10 ^ 14) = λ h. room_below c.args.count c.args.whole h c.requires in
    grind (serving, arith, r)
