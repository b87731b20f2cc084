-- A loop over channels in lent words: one channel more.
use Prim.Native.Nat.{ℕ, ◌+◌}
use mathlib.Core.List.{List}
use mathlib.Core.Path.{◌≡◌, sym, ap, ◌∙◌}
use native.Mathlib.Numerals.{add-one}
use Rattle.unit.specs.declared.State.{State}
use Rattle.unit.specs.TheUnit.{each}
use Rattle.pack.specs.Packing.{state_in}

each_next : (n a k : ℕ) (f : ℕ → State → State) (s : State) → k ≡ a + n → each (n + 1) a f s ≡ f k (each n a f s)
unfolding each
each_next n a k f s e = rw (add-one, ← e)

pub one_more : (n a k : ℕ) (f : ℕ → State → State) (s : State) (t u : List ℕ) → k ≡ a + n → state_in t ≡ each n a f s → state_in u ≡ f k (state_in t)
    → state_in u ≡ each (n + 1) a f s
one_more n a k f s t u e h d = d ∙ ap (f k) h ∙ sym (each_next n a k f s e)
