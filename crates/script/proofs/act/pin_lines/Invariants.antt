use Rattle.std.proofs.Common.{◌≡◌, ◌+◌, ◌%◌, ◌^◌}
use Rattle.text.specs.Placing.{Wrote}
use Rattle.script.specs.Replying.{word_before, pin_lines}
use Rattle.script.proofs.act.pin_lines.Given as goal

abbrev pub invariant-loop-w : goal.invariant-loop-w
invariant-loop-w l = record {
  counted : l.tick ≡ (l.ticks + l.w-index) % 2 ^ 64;
  last : l.before ≡ word_before l.w-index l.pins l.words;
  wrote : Wrote l.initial.page (pin_lines l.w-index l.ticks l.pins l.words) l.page;
}
