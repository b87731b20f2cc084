use Rattle.std.proofs.Common.{sym, ◌∙◌, le-ltb, lt-ltb}
use Rattle.blocks.specs.Finding.{better}
use Rattle.blocks.proofs.FindingLaws.{unfit-stays}
use Rattle.blocks.proofs.better.Goals as goal

pub returns-then-not-fits : goal.returns-then-not-fits
returns-then-not-fits c = rw (unfit-stays _ _ _ _ (sym c.fits.ensures ∙ c.if-not-fits.true))

pub returns-in-Some : goal.returns-in-Some
unfolding better
returns-in-Some c =
    let fit = sym c.fits.ensures ∙ c.if-not-fits.false in
    rw (c.in-Some.is, fit, ← c.rank-here.ensures, ← c.rank.ensures, le-ltb _ _ c.if-here-rank.true)

pub returns-in-Some-2 : goal.returns-in-Some-2
unfolding better
returns-in-Some-2 c =
    let fit = sym c.fits.ensures ∙ c.if-not-fits.false in
    rw (c.in-Some.is, fit, ← c.rank-here.ensures, ← c.rank.ensures, lt-ltb _ _ c.if-here-rank.false)

pub returns-in-None : goal.returns-in-None
unfolding better
returns-in-None c =
    rw (c.in-None.is, sym c.fits.ensures ∙ c.if-not-fits.false)
