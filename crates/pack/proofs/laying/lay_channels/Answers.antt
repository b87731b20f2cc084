use borrow.Author.Rules.{rules}
use mathlib.Core.Path.{◌≡◌, refl, ◌∙◌}
use native.Mathlib.Nat.{le_of_eq}
use native.Mathlib.Omega.{arith}
use lib.ListN.{length, take, length-set}
use lib.Seq.{take_all}
use Rattle.pack.proofs.Laid.{next-laid}
use Rattle.pack.specs.Packing.{tabulate, latches_in}
use Rattle.pack.proofs.laying.lay_channels.Goals as goal

pub loop-i-init : goal.loop-i-init
unfolding tabulate
loop-i-init c = (omega arith, search rules, refl)

pub loop-i-preserved : goal.loop-i-preserved
loop-i-preserved c =
    let l = c.loop-i in
    let z : length c.args.channels ≡ 16 = search rules in
    rw c.lay_latches.ensures
    (omega arith, simp length-set l.invariant.1, next-laid l.s c.args.channels l.i l.invariant.1 z (omega arith) l.invariant.2)

pub returns : goal.returns
returns c =
    let l = c.loop-i in
    let z : length c.args.channels ≡ 16 = search rules in
    let e : l.i ≡ 16 = omega arith in
    let p : tabulate 16 (latches_in l.s) ≡ take 16 c.args.channels = rw (← e) l.invariant.2 in
    p ∙ take_all 16 _ (le_of_eq z)
