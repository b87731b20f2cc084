use mathlib.Core.Path.{refl}
use Rattle.keeping.specs.Keeping.{load_from, load_of}
use Rattle.settings.proofs.AnswerLaws.{loaded}
use Rattle.settings.proofs.load.Goals as goal

pub returns-in-Err : goal.returns-in-Err
unfolding load_of load_from
returns-in-Err c =
    let is = loaded _ _ _ _ (rw (← c.chosen.ensures, c.in-Err.is) refl) in
    record { loaded = is.loaded; number = is.number; version = is.version }

pub returns-in-Ok : goal.returns-in-Ok
unfolding load_of
returns-in-Ok c =
    let is = loaded _ _ _ _ (rw (c.from.ensures, ← c.chosen.ensures, c.in-Ok.is) refl) in
    record { loaded = is.loaded; number = is.number; version = is.version }
