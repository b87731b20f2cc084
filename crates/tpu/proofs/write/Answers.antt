use mathlib.Core.Path.{refl}
use Rattle.tpu.proofs.write.Goals as goal

pub returns : goal.returns
returns c =
    let s = c.pack.ensures in
    let w = c.write-answer.ensures in
    record { answered = rw (w.answer, c.unpack.ensures, w.state, s) refl; number = rw (← s) w.number }
