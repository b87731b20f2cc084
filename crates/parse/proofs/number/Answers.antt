use Rattle.std.proofs.Common.{refl, ◌∙◌, arith}
use native.Mathlib.Nat.{pow-zero}
use Rattle.parse.specs.Parsing.{number_of}
use Rattle.parse.proofs.NumberLaws.{one_more, no_digit, all_read, next-below, next_fits}
use Rattle.parse.proofs.number.Goals as goal

pub loop-b-init : goal.loop-b-init
unfolding number_of
loop-b-init c = record { same = refl; small = omega (arith, pow-zero c.args.base) }

pub returns-in_err-d : goal.returns-in_err-d
returns-in_err-d c =
    let l = c.loop-b in
    c.from_residual.ensures ∙ no_digit c.args.base l.n l.b-index _ c.loop-b-test.true c.in_err-d.ensures.worth ∙ l.invariant.same

pub overflow_mul-n : goal.overflow_mul-n
overflow_mul-n c =
    let l = c.loop-b in
    let f = next_fits c.args.base l.n l.b-index c.in_ok-d.d _ l.invariant.small c.in_ok-d.ensures.below c.loop-b-test.true c.requires in
    record { fits = omega arith }

pub overflow_add-n : goal.overflow_add-n
overflow_add-n c =
    let l = c.loop-b in
    record { fits = next_fits c.args.base l.n l.b-index c.in_ok-d.d _ l.invariant.small c.in_ok-d.ensures.below c.loop-b-test.true c.requires }

pub loop-b-preserved : goal.loop-b-preserved
loop-b-preserved c =
    let l = c.loop-b in
    record {
      same = one_more c.args.base l.n l.b-index _ c.loop-b-test.true c.in_ok-d.d c.in_ok-d.ensures.worth ∙ l.invariant.same;
      small = next-below c.args.base l.n l.b-index c.in_ok-d.d l.invariant.small c.in_ok-d.ensures.below;
    }

pub returns : goal.returns
returns c =
    let l = c.loop-b in
    all_read c.args.base l.n l.b-index _ (omega arith) ∙ l.invariant.same
