use Rattle.tpu.proofs.read.Goals as goal

pub returns : goal.returns
returns c =
    let r = c.read.ensures in
    rw (← c.pack.ensures) (record { reading = r.reading; number = r.number; word = r.word })
