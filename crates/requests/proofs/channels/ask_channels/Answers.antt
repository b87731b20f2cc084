use Rattle.std.proofs.Common.{◌≡◌, ◌+◌, ◌-◌}
use mathlib.Core.Path.{refl, sym, ◌∙◌, subst}
use native.Mathlib.Omega.{arith}
use native.Mathlib.Numerals.{add-one}
use Rattle.std.proofs.lemmas.Result.{err_from_is_err_and}
use Rattle.unit.specs.Gate.{Yes, No, requested, and_then, ask_channel, ask_channels}
use Rattle.pack.specs.Packing.{state_in}
use Rattle.requests.specs.Told.{told}
use Rattle.requests.proofs.Passed.{asks_nothing, asked-next, asked-no}
use Rattle.requests.proofs.channels.ask_channels.Goals.{then-r-ge2+in_ok-ask_channel, else-r-ge2}
use Rattle.requests.proofs.channels.ask_channels.Goals as goal

pub loop-c-init : goal.loop-c-init
unfolding ask_channels
loop-c-init c =
    let none : c.args.a - c.args.a ≡ 0 = omega arith in
    (omega arith, omega arith, rw none refl)

pub returns-in_err-ask_channel : goal.returns-in_err-ask_channel
returns-in_err-ask_channel c =
    let l = c.loop-c in
    let p = err_from_is_err_and c.from_residual.result c.from_residual.ensures.1 in
    let no = sym (subst (λ x. told x (requested (state_in l.s) l.c c.pair-r.result) ≡ ask_channel c.pair-r.result l.c (state_in l.s)) c.in_err-ask_channel.was c.ask_channel.ensures) in
    let one = asked-next _ _ l.c _ _ _ l.invariant.0 c.pair-r.ensures l.invariant.2 ∙ no in
    let all : c.args.a + 7 - l.c + (l.c + 1 - c.args.a) ≡ 8 = omega (arith, l.invariant.0, l.invariant.1) in
    rw (p.1, p.2) (sym (subst (λ n. ask_channels n c.args.a c.args.v (state_in c.args.s.now) ≡ No c.in_err-ask_channel.field-0.0) all (asked-no _ _ _ _ _ (c.args.a + 7 - l.c) (rw add-one one))))

pub loop-c-preserved : goal.loop-c-preserved
unfolding and_then
loop-c-preserved c =
    let l = c.loop-c in
    let next = asked-next _ _ l.c _ _ _ l.invariant.0 c.pair-r.ensures l.invariant.2 in (
      omega arith,
      omega arith,
      elim c.if-r-ge2.branch [
        | then-r-ge2+in_ok-ask_channel w ↦
            let yes = sym (subst (λ x. told x (requested (state_in l.s) l.c c.pair-r.result) ≡ ask_channel c.pair-r.result l.c (state_in l.s)) w.in_ok-ask_channel.was w.ask_channel.ensures) in
            rw (add-one, w.s-is, w.requested.ensures) (next ∙ yes)
        | else-r-ge2 w ↦ rw (add-one, w.s-is) (next ∙ asks_nothing (Yes (state_in l.s)) c.pair-r.result l.c (omega arith))
      ],
    )
