use native.Mathlib.Omega.{arith}
use Rattle.fields.proofs.Bounds.{sized}
use Rattle.fields.proofs.size.Goals as goal

pub returns : goal.returns
returns c =
    let s = sized _ _ _ _ c.word.ensures c.size_in.ensures (omega arith) in
    record { size = s.0; inside = s.1 }
