use borrow.Author.Rules.{rules}
use native.Mathlib.Nat.{zero-min, min-le_right}
use mir.Syntax.{w16}
use mir.Val.{Fits}
use native.Mathlib.Numerals.{add-one}
use native.Mathlib.Omega.{arith}
use mathlib.Core.Path.{◌≡◌, refl, sym, ◌∙◌}
use Prim.Native.Nat.{ℕ, ◌+◌, ◌≤◌, min}
use Rattle.unit.specs.declared.State.{State}
use Rattle.unit.specs.Quiet.{quiet_at, quiet_below}
use Rattle.unit.proofs.Quiet.{none_below}
use Rattle.pack.specs.Packing.{state_in}
use Rattle.quiet.proofs.quiet_ticks.Goals as goal

-- one channel more
next : (s : State) (n q x r : ℕ) → q ≡ quiet_below n s → x ≡ quiet_at s n → r ≡ min q x → r ≡ quiet_below (n + 1) s
unfolding quiet_below
next s n q x r e f g = rw (add-one, g, e, f)

-- once no tick is quiet, none is in the end
none_left : (s : State) (n room r : ℕ) → n ≤ 16 → r ≡ quiet_below n s → r ≡ 0 → 0 ≡ min (quiet_below 16 s) room
none_left s n room r h e z = rw (none_below n 16 s h (sym e ∙ z), zero-min)

pub loop-c-init : goal.loop-c-init
unfolding quiet_below
loop-c-init c = (omega arith, refl)

pub returns-then-q-eq0 : goal.returns-then-q-eq0
returns-then-q-eq0 c =
    let l = c.loop-c in
    let a = c.args in
    none_left (state_in a.s.now) (l.c + 1) a.room c.min-q.result (omega arith)
    (next (state_in a.s.now) l.c l.q _ _ l.invariant.1 c.quiet_at.ensures c.min-q.ensures) c.if-q-eq0.true

pub loop-c-preserved : goal.loop-c-preserved
loop-c-preserved c =
    let l = c.loop-c in
    let a = c.args in
    (omega arith, next (state_in a.s.now) l.c l.q _ _ l.invariant.1 c.quiet_at.ensures c.min-q.ensures)

pub overflow_cast-result : goal.overflow_cast-result
overflow_cast-result c =
    let h : c.min.result ≤ c.args.room = rw (c.min.ensures, c.from.ensures) (min-le_right _ _) in
    let f : Fits w16 c.args.room = search rules in
    omega (arith, h, f)

pub returns : goal.returns
returns c =
    let l = c.loop-c in
    let e : l.c ≡ 16 = omega arith in
    rw (c.min.ensures, c.from.ensures, l.invariant.1, e)
