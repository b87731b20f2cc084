use Rattle.std.proofs.lemmas.Result.{err_from_is_err_and}
use Rattle.unit.specs.Gate.{verdict_of}
use Rattle.gate.proofs.writes.ask_requests.Goals as goal

pub returns-in_err-asked : goal.returns-in_err-asked
unfolding verdict_of
returns-in_err-asked c =
    let p = err_from_is_err_and c.from_residual.result c.from_residual.ensures.1 in
    rw (p.1, p.2, ← c.asked.ensures.1, c.in_err-asked.was)

pub returns : goal.returns
unfolding verdict_of
returns c = rw (← c.asked.ensures.1, c.in_ok-asked.was)
