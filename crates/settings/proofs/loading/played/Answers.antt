use Rattle.std.proofs.Common.{◌≡◌, arith}
use Rattle.unit.specs.Calls.{run}
use Rattle.keeping.specs.Layout.{setting_writes, load_calls}
use Rattle.settings.proofs.AnswerLaws.{written_next}
use Rattle.settings.proofs.loading.played.Goals as goal

pub loop-n-init : goal.loop-n-init
unfolding setting_writes run
loop-n-init c = c.pack.ensures

pub loop-n-preserved : goal.loop-n-preserved
loop-n-preserved c =
    let l = c.loop-n in
    rw (c.write.ensures.state, l.invariant, c.address.ensures, c.word.ensures) (written_next c.args.s c.args.store.now c.args.k l.n)

pub returns : goal.returns
unfolding load_calls
returns c =
    let all : c.loop-n.n ≡ 106 = omega arith in
    rw (c.unpack.ensures, ← all) c.loop-n.invariant
