use Rattle.std.proofs.Common.{◌≡◌, ◌-◌, ◌%◌, ◌≤◌}
use Rattle.blocks.specs.Blocks.{laid, sum}
use Rattle.keeping.specs.Layout.{held_word, block_word}
use Rattle.saving.proofs.layout.lay.Given as goal

abbrev pub invariant-loop-i : goal.invariant-loop-i
invariant-loop-i l = (l.i ≤ 255) × (l.store ≡ laid (block_word l.s l.version) l.initial.store l.k l.i) × (l.total ≡ sum (held_word l.s l.version) l.i % 65536)

abbrev pub decreases-loop-i : goal.decreases-loop-i
decreases-loop-i l = 255 - l.i
