-- The words of a block but its last, and calls that are played one list after another.
use Prim.Native.Nat.{ℕ, ◌<◌}
use mathlib.Core.List.{List, [], ◌∷◌, ◌++◌}
use mathlib.Core.Path.{◌≡◌, refl}
use borrow.Author.Tests.{lt-ltb}
use Rattle.unit.specs.declared.State.{State}
use Rattle.unit.specs.Calls.{Call, after, run}
use Rattle.keeping.specs.Layout.{held_word, block_word}

pub block-word : (s : State) (v i : ℕ) → i < 255 → block_word s v i ≡ held_word s v i
unfolding block_word
block-word s v i l = rw (lt-ltb i 255 l)

pub run-append : (s : State) (xs ys : List Call) → run s (xs ++ ys) ≡ run (run s xs) ys
unfolding run
run-append s [] ys = refl
run-append s (x ∷ xs) ys = run-append (after x s) xs ys
