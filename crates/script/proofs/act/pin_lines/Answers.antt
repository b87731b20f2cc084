use Rattle.std.proofs.Common.{◌≡◌, ◌+◌, ◌%◌, ◌^◌, refl, add-one, arith}
use Rattle.script.specs.Replying.{word_before, pin_lines}
use Rattle.text.proofs.PlacingLaws.{nothing}
use Rattle.script.proofs.ReplyingLaws.{next-line}
use Rattle.script.proofs.act.pin_lines.Goals as goal

pub loop-w-init : goal.loop-w-init
unfolding word_before pin_lines
loop-w-init c = record { counted = omega arith; last = refl; wrote = nothing _ }

pub loop-w-preserved : goal.loop-w-preserved
unfolding word_before
loop-w-preserved c =
    let l = c.loop-w in
    let next : (l.tick + 1) % 2 ^ 64 ≡ (c.args.ticks + (l.w-index + 1)) % 2 ^ 64 = omega (arith, l.invariant.counted) in
    record {
      counted = next;
      last = rw add-one;
      wrote = next-line l.w-index _ _ _ _ _ next l.invariant.last l.invariant.wrote c.pin_line.ensures;
    }
