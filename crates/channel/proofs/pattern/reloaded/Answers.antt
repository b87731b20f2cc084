use Rattle.words.proofs.ChoiceLaws.{cases}
use Rattle.channel.proofs.pattern.reloaded.Goals as goal

pub returns-then-m-eq0 : goal.returns-then-m-eq0
returns-then-m-eq0 c = search cases

pub returns-else-m-eq0 : goal.returns-else-m-eq0
returns-else-m-eq0 c = search cases
