use Rattle.signals.proofs.values.Goals as goal

pub returns-in-Some : goal.returns-in-Some
returns-in-Some c = rw (c.in-Some.is, ← c.words_of-words.ensures, ← c.words_of.ensures) c.values_in.ensures

pub returns-in-None : goal.returns-in-None
returns-in-None c = rw (c.in-None.is, ← c.words_of-words.ensures) c.values_in-in-None.ensures
