use mathlib.Core.Logic.{◌≢◌}
use mathlib.Core.Path.{◌∙◌}
use native.Mathlib.Omega.{arith}
use borrow.Author.Tests.{ne_eqb}
use Rattle.unit.specs.OneTick.{request_served}
use Rattle.service.proofs.request_served.Goals as goal

pub returns-in-2 : goal.returns-in-2
unfolding request_served
returns-in-2 c = rw (← c.request.ensures, c.in-2.is) (c.initialise.ensures ∙ rw c.put_request.ensures)

pub returns-in-3 : goal.returns-in-3
unfolding request_served
returns-in-3 c = rw (← c.request.ensures, c.in-3.is) (c.step_request.ensures ∙ rw (c.put_request-in-3.ensures, c.phase-p.ensures))

pub returns-in_default : goal.returns-in_default
unfolding request_served
returns-in_default c =
    let two : c.request.result ≢ 2 = λ e. omega arith in
    let three : c.request.result ≢ 3 = λ e. omega arith in
    rw (← c.request.ensures, ne_eqb _ 2 two, ne_eqb _ 3 three)
