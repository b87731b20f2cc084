use Rattle.slots.proofs.Within.{one-service}
use Rattle.slots.proofs.Computed.{rows}
use Rattle.slots.proofs.one_service.Goals as goal

pub returns-clause-claims : goal.returns-clause-claims
returns-clause-claims c = one-service

pub returns-clause-rows : goal.returns-clause-rows
returns-clause-rows c = rows
