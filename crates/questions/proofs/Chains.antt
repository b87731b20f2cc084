-- A chain of `&&`, one part more: x is what the part before answered, v what the chain is then.
use mathlib.Core.Bool.{Bool, true, false, ◌&&◌}
use mathlib.Core.Path.{◌≡◌, refl, sym, ◌∙◌}
use Prim.Native.Nat.{ℕ, ◌+◌, ◌<◌, ◌≤◌}
use native.Mathlib.Omega.{arith}
use lib.Dec.{leb, ltb}
use borrow.Author.Tests.{le-leb, lt-leb, ltb-true, ltb-false}

pub goes : (x y v p q : Bool) → x ≡ p → x ≡ true → v ≡ y → y ≡ q → v ≡ (p && q)
goes x y v p q e t h g = rw (sym e ∙ t) (h ∙ g)

pub ends : (x v p q : Bool) → x ≡ p → x ≡ false → v ≡ x → v ≡ (p && q)
ends x v p q e t h = rw (sym e ∙ t) (h ∙ t)

pub joined : (p q r : Bool) → ((p && q) && r) ≡ (p && (q && r))
joined true q r = refl
joined false q r = refl

pub above : (c n : ℕ) → leb (c + 1) n ≡ ltb c n
above c n = by (ltb c n) refl
  where
    by : (b : Bool) → ltb c n ≡ b → leb (c + 1) n ≡ b
    by true t =
        let h : c < n = ltb-true c n t in
        le-leb (c + 1) n (omega arith)
    by false t =
        let h : n ≤ c = ltb-false c n t in
        lt-leb (c + 1) n (omega arith)
