use Rattle.unit.specs.Gate.{ask_word}
use Rattle.requests.proofs.Choices.{choices}
use Rattle.requests.proofs.Choices.{choices}
use Rattle.gate.proofs.writes.ask_word.Goals as goal

pub returns-then-not-exists : goal.returns-then-not-exists
unfolding ask_word
returns-then-not-exists c = search choices depth 16

pub returns-then-not-target_good : goal.returns-then-not-target_good
unfolding ask_word
returns-then-not-target_good c = search choices depth 16

pub returns-then-is_target : goal.returns-then-is_target
unfolding ask_word
returns-then-is_target c = search choices depth 16

pub returns-then-not-is_free : goal.returns-then-not-is_free
unfolding ask_word
returns-then-not-is_free c = search choices depth 16

pub returns : goal.returns
unfolding ask_word
returns c = search choices depth 16
