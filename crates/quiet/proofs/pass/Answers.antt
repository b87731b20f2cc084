use Rattle.quiet.proofs.pass.Goals as goal

pub returns : goal.returns
returns c =
    let e = c.present.ensures in
    record {
      state = rw (c.put_slots.ensures, c.idled.ensures, c.put_timers.ensures, c.slots-slots.ensures, c.onward-timers.ensures, e.timers);
      tcr1 = rw (← e.timers) e.tcr1;
      tcr2 = rw (← e.timers) e.tcr2;
    }
