use Rattle.saving.proofs.LayLaws.{reads-setting}
use Rattle.saving.proofs.layout.setting.Goals as goal

pub returns : goal.returns
returns c = rw (c.unwrap_or.ensures, c.read.ensures.reading, c.address.ensures) (reads-setting c.args.s c.args.n)
