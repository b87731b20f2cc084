use Rattle.tpu.proofs.Refused.{refusals}
use Rattle.tpu_c.proofs.refusals.Goals as goal

pub returns : goal.returns
returns c = refusals
