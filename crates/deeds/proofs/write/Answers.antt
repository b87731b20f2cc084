use Rattle.std.proofs.Common.{rules}
use Rattle.pack.specs.Packing.{state_in}
use Rattle.deeds.proofs.Good.{deed-good}
use Rattle.deeds.proofs.write.Goals as goal

pub done-requires : goal.done-requires
done-requires c = deed-good (state_in c.args.s.now) c.args.address c.args.value _ (search rules)
