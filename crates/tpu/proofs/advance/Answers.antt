use mathlib.Core.Path.{refl}
use Rattle.tpu.proofs.advance.Goals as goal

pub returns : goal.returns
returns c =
    let s = c.pack.ensures in
    let w = c.advance-answer.ensures in
    record { answered = rw (w.answer, c.unpack.ensures, w.state, s) refl; pins = rw (← s) w.pins; number = w.number }
