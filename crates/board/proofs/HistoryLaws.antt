-- Every history of a board comes to a list of the unit's calls: `board-history`.
use Rattle.std.proofs.Common.{Result, Ok, Err}
use Prim.Native.Nat.{ℕ, zero, suc, ◌+◌}
use mathlib.Core.Bool.{Bool, true, false}
use mathlib.Core.List.{List, [], ◌∷◌, ◌++◌, append_assoc}
use mathlib.Core.Path.{◌≡◌, refl, ap, sym, subst, ◌∙◌}
use Rattle.words.specs.Choice.{pick, ask}
use Rattle.words.proofs.ChoiceLaws.{pick-cases}
use Rattle.unit.specs.declared.State.{State}
use Rattle.unit.specs.TheUnit.{reset_state}
use Rattle.unit.specs.Calls.{Call, Read, Write, Advance, run}
use Rattle.history.specs.Moments.{Typed}
use Rattle.history.proofs.Listed.{term-3-of, always-of, slow-moves-of, served-within-of, how-late-of}
use Rattle.isolation.proofs.OneMove.{one-move-of}
use Rattle.blocks.specs.Claims.{Bytes}
use Rattle.blocks.proofs.SoundLaws.{word_fits}
use Rattle.keeping.specs.declared.Refusal.{Refusal}
use Rattle.keeping.specs.declared.Loaded.{Loaded}
use Rattle.keeping.specs.Layout.{settings, setting_writes, load_calls}
use Rattle.keeping.specs.Keeping.{chosen, all_free, load_from, load_of}
use Rattle.board.specs.History.{BoardCall, OfUnit, Save, Load, after, board_run, played, unit_calls, all_calls, TypedBoard, FromBoard, BoardHistory}
use Rattle.keeping.proofs.LayoutLaws.{run-append}

-- ---- what a list returns

-- a load that is refused at question 2 plays nothing, and one that is taken plays its writes
asked-plays : (s : State) (q : Bool) (refusal taken : Loaded) (xs : List Call) → refusal.state ≡ s → taken.state ≡ run s xs
    → (ask q refusal taken).state ≡ run s (pick q xs [])
unfolding ask run
asked-plays s true refusal taken xs e f = f
asked-plays s false refusal taken xs e f = e

load-plays : (s : State) (b : List ℕ) (x : Result ℕ Refusal) → (load_from s b x).state ≡ run s (played s b x)
unfolding load_from played run
load-plays s b (Err r) = refl
load-plays s b (Ok k) = asked-plays s (all_free s) _ _ (load_calls b k) refl refl

call-plays : (x : BoardCall) (s : State) → after x s ≡ run s (unit_calls x s)
unfolding after unit_calls run load_of
call-plays (OfUnit x) s = refl
call-plays (Save b) s = refl
call-plays (Load w b) s = load-plays s b (chosen b w)

list-plays : (s : State) (xs : List BoardCall) → board_run s xs ≡ run s (all_calls s xs)
unfolding board_run all_calls run
list-plays s [] = refl
list-plays s (x ∷ xs) =
    list-plays (after x s) xs ∙ ap (λ t. run t (all_calls (after x s) xs)) (call-plays x s)
    ∙ sym (run-append s (unit_calls x s) (all_calls (after x s) xs))

list-parts : (s : State) (xs ys : List BoardCall) → all_calls s (xs ++ ys) ≡ all_calls s xs ++ all_calls (board_run s xs) ys
unfolding board_run all_calls
list-parts s [] ys = refl
list-parts s (x ∷ xs) ys = rw (list-parts (after x s) xs ys, append_assoc)

-- ---- the values that are written are words

typed-append : (xs ys : List Call) → Typed xs → Typed ys → Typed (xs ++ ys)
unfolding Typed
typed-append [] ys x y = y
typed-append (Read a ∷ xs) ys x y = typed-append xs ys x y
typed-append (Write a v ∷ xs) ys x y = (x.0, typed-append xs ys x.1 y)
typed-append (Advance n lent ∷ xs) ys x y = typed-append xs ys x y

writes_typed : (b : List ℕ) (k n : ℕ) → Bytes b → Typed (setting_writes b k n)
unfolding setting_writes Typed
writes_typed b k zero h = tt
writes_typed b k (suc n) h = typed-append (setting_writes b k n) _ (writes_typed b k n h) (word_fits b k (3 + n) h, tt)

played-typed : (s : State) (b : List ℕ) (x : Result ℕ Refusal) → Bytes b → Typed (played s b x)
unfolding played Typed load_calls
played-typed s b (Err r) h = tt
played-typed s b (Ok k) h = pick-cases Typed (all_free s) (λ t. writes_typed b k settings h) (λ t. tt)

all_typed : (xs : List BoardCall) (s : State) → TypedBoard xs → Typed (all_calls s xs)
unfolding TypedBoard all_calls unit_calls Typed
all_typed [] s h = tt
all_typed (OfUnit x ∷ xs) s h = typed-append (x ∷ []) (all_calls (after (OfUnit x) s) xs) h.0 (all_typed xs (after (OfUnit x) s) h.1)
all_typed (Save b ∷ xs) s h = all_typed xs (after (Save b) s) h
all_typed (Load w b ∷ xs) s h =
    typed-append (played s b (chosen b w)) (all_calls (after (Load w b) s) xs)
    (played-typed s b (chosen b w) h.0) (all_typed xs (after (Load w b) s) h.1)

from-board : (listed : List Call) → FromBoard listed → Typed listed
from-board listed x = subst Typed (sym x.come) (all_typed x.board reset_state x.typed)

pub board-history : BoardHistory
board-history =
    record {
      returns = list-plays;
      parts = list-parts;
      term-3 = term-3-of FromBoard from-board;
      always = always-of FromBoard from-board;
      slow-moves = slow-moves-of FromBoard from-board;
      served = served-within-of FromBoard from-board;
      one-move = one-move-of FromBoard from-board;
      how-late = how-late-of FromBoard from-board;
    }
