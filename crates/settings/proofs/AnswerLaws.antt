-- One channel more is free, one write of a load more; what a save and a load answer behind their tests.
use Prim.Native.Nat.{ℕ, zero, suc, ◌<◌, ◌^◌, ◌+◌, ◌≤◌}
use native.Mathlib.Omega.{arith}
use native.Mathlib.Numerals.{add-one}
use mathlib.Core.Bool.{Bool, true, false}
use mathlib.Core.List.{List, [], ◌∷◌, ◌++◌}
use mathlib.Core.Logic.{◌≢◌}
use mathlib.Core.Path.{◌≡◌, refl, ◌∙◌, ap}
use borrow.Author.Tests.{lt-ltb}
use Rattle.words.proofs.ChoiceLaws.{holds, fails, and_left, and_right, tests}
use Rattle.unit.specs.declared.State.{State}
use Rattle.unit.specs.TheUnit.{all}
use Rattle.unit.specs.Calls.{write_of, after, run}
use Rattle.blocks.specs.Blocks.{is_store, count, word_in, laid}
use Rattle.blocks.proofs.WordLaws.{count-store, no_store}
use Rattle.keeping.specs.declared.Refusal.{Refusal}
use Rattle.keeping.specs.declared.Refusal.TheVariants.{NoVersion}
use Rattle.std.proofs.Common.{Result, Ok, Err, Option, Some, None}
use Rattle.std.specs.Option.{ok_or, SomeIff}
use Rattle.std.proofs.Math.Bool.{and-true}
use Rattle.std.specs.List.{list_all, range_with_len}
use Rattle.std.proofs.lemmas.List.Folds.{list_all-append}
use Rattle.keeping.specs.declared.Which.{Which}
use Rattle.keeping.specs.declared.Loaded.{Loaded}
use Rattle.keeping.specs.Layout.{setting_address, block_word, setting_writes}
use Rattle.keeping.specs.Keeping.{number_of, version_of, greatest, place_of, may_save, save_of, save_number, save_version, store_after, chosen, load_of, load_number, load_version}
use Rattle.keeping.proofs.LayoutLaws.{run-append}
use Rattle.keeping.proofs.KeepingLaws.{save-numbers, load-numbers}

-- ---- question 2

range-push : (a n : ℕ) → range_with_len a (suc n) ≡ range_with_len a n ++ (a + n) ∷ []
range-push a zero = ap (λ m. m ∷ []) (omega arith)
range-push a (suc n) =
    let e : a + 1 + n ≡ a + suc n = omega arith in
    ap (◌∷◌ a) (range-push (a + 1) n ∙ ap (λ m. range_with_len (a + 1) n ++ m ∷ []) e)

-- the question that is put of each number of a range
pub all-asked : (f : ℕ → Bool) (a n : ℕ) → list_all f (range_with_len a n) ≡ all n a f
unfolding all
all-asked f a zero = refl
all-asked f a (suc n) =
    ap (list_all f) (range-push a n) ∙ list_all-append f (range_with_len a n) ((a + n) ∷ []) ∙ rw (all-asked f a n, and-true)

-- ---- what ok_or answers

pub or-err : (o : Option ℕ) (e : Refusal) {q : Refusal} → ok_or o e ≡ Err q → (o ≡ None) × (q ≡ e)
or-err None e h = (refl, cc)
or-err (Some k) e h = let z : ◌≡◌ {A = ℕ} 0 1 = cc in absurd (omega arith)

pub or-ok : (o : Option ℕ) (e : Refusal) {k : ℕ} → ok_or o e ≡ Ok k → o ≡ Some k
or-ok None e h = let z : ◌≡◌ {A = ℕ} 0 1 = cc in absurd (omega arith)
or-ok (Some j) e h = cc

-- ---- a save

-- what the contract of a save says of its answer r and of the bytes t after it
pub record Saved (s : State) (b : List ℕ) (r : Result ℕ Refusal) (t : List ℕ) : Type 0 where
  pub answer : r ≡ save_of b
  pub number : number_of r ≡ save_number b
  pub version : version_of r ≡ save_version b
  pub kept : t ≡ store_after s b

saved : (s : State) (b : List ℕ) (r : Result ℕ Refusal) (t : List ℕ) → r ≡ save_of b → t ≡ store_after s b → Saved s b r t
saved s b r t e f = let n = save-numbers b r e in record { answer = e; number = n.0; version = n.1; kept = f }

refuses : (s : State) (b : List ℕ) → may_save b ≡ false → Saved s b (Err NoVersion) b
unfolding save_of store_after
refuses s b e = saved s b (Err NoVersion) b (rw e refl) (rw e refl)

-- bytes that are no store
pub saves-nothing : (s : State) (b : List ℕ) (n : ℕ) → n ≡ count b → n ≡ 0 → Saved s b (Err NoVersion) b
unfolding may_save
saves-nothing s b n e z = refuses s b (fails (may_save b) (λ t. omega (arith, count-store b (and_left (is_store b) _ t))))

-- the version after g, where there is one
full : (v : Option ℕ) (g : ℕ) → SomeIff v (g + 1 < 2 ^ 32) (g + 1) → v ≡ None → 0xffffffff ≤ g
full None g next e = omega (arith, next)
full (Some x) g next e = let z : ◌≡◌ {A = ℕ} 0 1 = cc in absurd (omega arith)

counted : (o : Option ℕ) (g v : ℕ) → SomeIff o (g + 1 < 2 ^ 32) (g + 1) → o ≡ Some v → (v ≡ g + 1) × (g < 0xffffffff)
counted None g v next e = let z : ◌≡◌ {A = ℕ} 0 1 = cc in absurd (omega arith)
counted (Some x) g v next e = let same : x ≡ v = cc in (omega (arith, next.1), omega (arith, next.0))

-- a store whose versions have come to their end
pub saves-no-more : (s : State) (b : List ℕ) (g : ℕ) (v : Option ℕ) → g ≡ greatest b → SomeIff v (g + 1 < 2 ^ 32) (g + 1) → v ≡ None
    → Saved s b (Err NoVersion) b
unfolding may_save
saves-no-more s b g v e next none =
    refuses s b (fails (may_save b) (λ t. let h : _ = and_right (is_store b) _ t in omega (arith, tests, full v g next none)))

may-save : (b : List ℕ) (n g : ℕ) → n ≡ count b → n ≢ 0 → g ≡ greatest b → g < 0xffffffff → may_save b ≡ true
unfolding may_save
may-save b n g e z f l =
    let store : is_store b ≡ true = holds (is_store b) (λ t. z (e ∙ no_store b t)) in
    rw store (lt-ltb (greatest b) 0xffffffff (omega arith))

-- the next version, in its block
pub saves-next : (s : State) (b t : List ℕ) (n g k v : ℕ) (o : Option ℕ) → n ≡ count b → n ≢ 0 → g ≡ greatest b
    → SomeIff o (g + 1 < 2 ^ 32) (g + 1) → o ≡ Some v → k ≡ place_of b → t ≡ laid (block_word s v) b k 256 → Saved s b (Ok v) t
unfolding save_of store_after
saves-next s b t n g k v o e z f next is p q =
    let more = counted o g v next is in
    let may = may-save b n g e z f more.1 in
    saved s b (Ok v) t (rw (may, more.0, f, add-one) refl) (rw (may, q, p, more.0, f, add-one) refl)

-- ---- a load

-- one setting more is written
pub written_next : (s : State) (b : List ℕ) (k n : ℕ)
    → (write_of (run s (setting_writes b k n)) (setting_address n) (word_in b k (3 + n))).state ≡ run s (setting_writes b k (n + 1))
unfolding setting_writes after run
written_next s b k n = rw (add-one, run-append s (setting_writes b k n) (_ ∷ []))

-- what its contract says of its answer r
pub record LoadedBy (s : State) (w : Which) (b : List ℕ) (r : Loaded) : Type 0 where
  pub loaded : r ≡ load_of s w b
  pub number : number_of r.answer ≡ load_number s (chosen b w)
  pub version : version_of r.answer ≡ load_version s b (chosen b w)

pub loaded : (s : State) (w : Which) (b : List ℕ) (r : Loaded) → r ≡ load_of s w b → LoadedBy s w b r
loaded s w b r e = let n = load-numbers s w b r e in record { loaded = e; number = n.0; version = n.1 }
