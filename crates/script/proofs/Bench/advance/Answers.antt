use Rattle.std.proofs.Common.{sym}
use lib.Seq.{length-take-le}
use Rattle.script.specs.Replying.{room}
use Rattle.script.proofs.ReplyingLaws.{enough, advance-taken, advance-refused}
use Rattle.script.proofs.Bench.advance.Goals as goal

pub slice_bounds-words-end : goal.slice_bounds-words-end
unfolding room
slice_bounds-words-end c =
    let call = rw c.from.ensures at c.advance-advanced.ensures in
    enough _ _ _ _ _ call.answered c.in-Ok.is call.pins

pub slice_bounds-pin_lines-end : goal.slice_bounds-pin_lines-end
unfolding room
slice_bounds-pin_lines-end c =
    let call = rw c.from.ensures at c.advance-advanced.ensures in
    sym (length-take-le _ _ (enough _ _ _ _ _ call.answered c.in-Ok.is call.pins))

pub returns-in-Ok : goal.returns-in-Ok
unfolding room
returns-in-Ok c =
    let call = rw c.from.ensures at c.advance-advanced.ensures in
    advance-taken _ _ _ _ _ call.answered _ _ _ c.in-Ok.is call.pins
    (rw c.from-in-Ok-2.ensures)
    c.pin_lines.ensures
    (rw c.from-in-Ok.ensures at c.number_line.ensures)

pub returns-in-Err : goal.returns-in-Err
unfolding room
returns-in-Err c =
    let call = rw c.from.ensures at c.advance-advanced.ensures in
    advance-refused _ _ _ _ _ call.answered _ c.in-Err.is c.refuse.ensures
