use Rattle.unit.proofs.Readings.{readings}
use Rattle.unit.proofs.Takes.{takes}
use Rattle.unit.proofs.Passing.{time-passes}
use Rattle.history.proofs.Calls.{calls_are}
use Rattle.history.proofs.Timers.{timers-count}
use Rattle.history.proofs.Leaves.{writes-leave}
use Rattle.history.proofs.Always.{always}
use Rattle.history.proofs.Served.{served-within}
use Rattle.history.proofs.Late.{how-late}
use Rattle.history.proofs.Term3.{term-3}
use Rattle.history.proofs.SlowMoves.{slow-moves}
use Rattle.history.proofs.term_3.Goals as goal

pub returns : goal.returns
returns c = (calls_are, writes-leave, always, served-within, how-late, term-3, slow-moves, readings, takes, time-passes, timers-count)
