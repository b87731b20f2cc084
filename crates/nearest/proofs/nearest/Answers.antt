use mathlib.Core.Path.{sym, subst}
use native.Mathlib.Omega.{arith}
use lib.Dec.{T}
use lib.Ieee.{binary64, fits}
use Rattle.nearest.proofs.FieldLaws.{nan-outside, digits_lt, small, large, minus-half, under-half, minus-more, middle}
use Rattle.nearest.proofs.nearest.Goals.{Start, else-exponent-eq1022-via-then-exponent-eq1022+else-digits-eq0, else-exponent-eq1022-via-else-exponent-eq1022}
use Rattle.nearest.proofs.nearest.Goals as goal

-- an `f64` is a value of its format
held : (c : Start) → T (fits binary64 c.args.q)
held c = subst T (sym c.well_formed.0.1) tt

pub returns-then-is_nan : goal.returns-then-is_nan
returns-then-is_nan c = nan-outside c.args.q (cc c.is_nan.ensures.value)

pub returns-then-exponent-lt1022 : goal.returns-then-exponent-lt1022
returns-then-exponent-lt1022 c = small c.args.q (held (goal.at.returns-then-exponent-lt1022 c).Start) c.if-exponent-lt1022.true

pub returns-then-exponent-gt1037 : goal.returns-then-exponent-gt1037
returns-then-exponent-gt1037 c = large c.args.q (held (goal.at.returns-then-exponent-gt1037 c).Start) c.if-exponent-gt1037.true

pub returns-then-digits-eq0 : goal.returns-then-digits-eq0
returns-then-digits-eq0 c =
    minus-half c.args.q (held (goal.at.returns-then-digits-eq0 c).Start) c.if-bits-eq1.true c.if-exponent-eq1022.true c.if-digits-eq0.true

pub returns-then-bits-eq1 : goal.returns-then-bits-eq1
returns-then-bits-eq1 c =
    let h = held (goal.at.returns-then-bits-eq1 c).Start in
    elim c.else-exponent-eq1022.branch [
      | else-exponent-eq1022-via-then-exponent-eq1022+else-digits-eq0 w ↦ under-half c.args.q h c.if-bits-eq1.true w.if-exponent-eq1022.true w.if-digits-eq0.false
      | else-exponent-eq1022-via-else-exponent-eq1022 w ↦ minus-more c.args.q h c.if-bits-eq1.true c.if-exponent-lt1022.false c.if-exponent-gt1037.false w.if-exponent-eq1022.false
    ]

pub overflow_add-digits : goal.overflow_add-digits
overflow_add-digits c = omega (arith, digits_lt c.args.q)

pub half_up-requires : goal.half_up-requires
half_up-requires c =
    let t = digits_lt c.args.q in
    record { m_bound = omega arith; some_places = omega arith; few_places = omega arith }

pub returns : goal.returns
returns c =
    let v = middle c.args.q (held (goal.at.returns c).Start) c.if-bits-eq1.false c.if-exponent-lt1022.false c.if-exponent-gt1037.false in
    rw (← v, ← c.half_up.ensures) c.in_count.ensures
