-- One period more.
use Prim.Native.Nat.{ℕ, suc, ◌+◌}
use mathlib.Core.Path.{◌≡◌}
use mathlib.Core.List.{◌∷◌}
use native.Mathlib.Numerals.{add-one}
use Rattle.motor.specs.Stepping.{period}
use Rattle.text.specs.declared.Page.{Page}
use Rattle.text.specs.Placing.{Wrote}
use Rattle.text.specs.Printing.{decimal}
use Rattle.ramp_lines.specs.Replying.{periods_to}
use Rattle.text.proofs.PlacingLaws.{also}

pub next-period :
    {page mid left : Page} (r cntl0 cntl1 p : ℕ) →
    p ≡ period cntl0 cntl1 (r + 1) →
    Wrote page (periods_to r cntl0 cntl1) mid →
    Wrote mid (32 ∷ decimal p) left →
    Wrote page (periods_to (r + 1) cntl0 cntl1) left
unfolding periods_to
next-period r cntl0 cntl1 p e f g =
    let s : p ≡ period cntl0 cntl1 (suc r) = rw add-one at e in
    rw (add-one r, ← s) (also f g)
