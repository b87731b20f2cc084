use Rattle.channel.proofs.pattern.counted.Goals as goal

pub returns : goal.returns
returns c = rw (c.with_nibble-2.ensures, c.with_nibble.ensures)
