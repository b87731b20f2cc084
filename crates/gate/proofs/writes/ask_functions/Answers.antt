use Rattle.requests.proofs.Choices.{choices}
use Rattle.requests.proofs.Choices.{choices}
use Rattle.gate.proofs.writes.ask_functions.Goals as goal

pub returns-then-not-keep_or_free : goal.returns-then-not-keep_or_free
returns-then-not-keep_or_free c = search choices depth 16

pub returns : goal.returns
returns c = search choices depth 16
