use mathlib.Core.Logic.{◌≢◌}
use native.Mathlib.Omega.{arith}
use borrow.Author.Tests.{ne_eqb}
use Rattle.unit.specs.Gate.{ask_channel, requested}
use Rattle.requests.proofs.channels.ask_channel.Goals as goal

pub returns-in-2 : goal.returns-in-2
unfolding ask_channel
returns-in-2 c = rw c.in-2.is c.ask_initialise.ensures

pub returns-in-3 : goal.returns-in-3
unfolding ask_channel
returns-in-3 c = rw c.in-3.is c.ask_step.ensures

pub returns-in_default : goal.returns-in_default
unfolding ask_channel requested
returns-in_default c =
    let two : c.args.r ≢ 2 = λ e. omega arith in
    let three : c.args.r ≢ 3 = λ e. omega arith in
    rw (ne_eqb _ 2 two, ne_eqb _ 3 three)
