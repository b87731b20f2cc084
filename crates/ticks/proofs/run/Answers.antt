use Rattle.unit.specs.declared.State.{State}
use Rattle.pack.specs.Packing.{state_in}
use Rattle.ticks.proofs.Lent.{rest-done, after-add, pins-add, pin-words-long, lent-long}
use Rattle.unit.specs.Calls.{pin_words}
use Rattle.unit.specs.OneTick.{after_ticks}
use borrow.Rule.Slice.PartMut.{put_mid}
use lib.ListN.{length, drop, replicate, length-take, length-drop}
use native.Mathlib.Omega.{arith}
use Prim.Native.Nat.{◌+◌, ◌-◌, ◌≤◌}
use mathlib.Core.List.{◌++◌}
use mathlib.Core.Path.{◌≡◌, refl, sym, ap, ◌∙◌}
use Rattle.ticks.proofs.run.Goals as goal

pub loop-i-init : goal.loop-i-init
unfolding after_ticks pin_words
loop-i-init c = (omega arith, c.requires.most, c.requires.room, refl, refl, refl)

pub fill-requires : goal.fill-requires
fill-requires c = simp (length-take, length-drop) (omega arith)

pub loop-i-preserved : goal.loop-i-preserved
loop-i-preserved c =
    let l = c.loop-i in
    let a = c.args in
    let s = state_in a.s.now in
    let k = c.onward-k.result in
    let e = c.onward-k.ensures in
    let i = l.invariant in
    let after : after_ticks k (state_in l.s) ≡ after_ticks (l.i + k) s = ap (after_ticks k) i.4 ∙ after-add k l.i s in
    let shown = c.pins.ensures ∙ ap (λ (t : State). t.pins) e.state in
    let words : pin_words l.i s ++ replicate k c.pins.result ≡ pin_words (l.i + k) s =
    ap (λ x. pin_words l.i s ++ x) (ap (replicate k) shown ∙ sym e.pins ∙ ap (pin_words k) i.4) ∙ pins-add k l.i s in
    let put : put_mid l.i (length l.lent - l.i) l.lent c.fill.new.rest ≡ pin_words (l.i + k) s ++ drop (l.i + k) a.lent.now =
    rest-done (pin_words l.i s) (replicate k c.pins.result) a.lent.now l.lent _ l.i k i.5 (pin-words-long l.i s) c.fill.ensures
    ∙ ap (λ x. x ++ drop (l.i + k) a.lent.now) words in
    let room : l.i + k ≤ a.n = omega (arith, e.room) in
    (room, i.1, i.2, ap length put ∙ lent-long (l.i + k) s a.lent.now (omega (arith, room, i.2)), e.state ∙ after, put)

pub returns : goal.returns
returns c =
    let l = c.loop-i in
    let e : l.i ≡ c.args.n = omega arith in
    rw (← e) (record { state = l.invariant.4; pins = l.invariant.5 })
