-- A list made of f 0, f 1 and so on: its length, its elements, and when it is another list.
use mathlib.Core.Bool.{Bool, true, false}
use mathlib.Core.Path.{◌≡◌, refl, sym, ◌∙◌}
use mathlib.Core.List.{List, [], ◌∷◌, ◌++◌}
use Prim.Native.Nat.{ℕ, zero, suc, ◌+◌, ◌<◌, ◌≤◌}
use native.Mathlib.Numerals.{add-one}
use native.Mathlib.Nat.{le_of_eq}
use native.Mathlib.Omega.{arith}
use lib.Dec.{ltb}
use lib.ListN.{length, take, set, get_or, length-append, get_or-append}
use lib.Seq.{take_all, take-suc, take-suc-set, get_or_at}
use borrow.Author.Tests.{ltb-true, ltb-false}
use Rattle.pack.specs.Packing.{tabulate}

-- a loop's step: the first i elements are those of f, and the next one is stored
pub next : {A : Type 0} (f : ℕ → A) (xs : List A) (i : ℕ) (v : A) → i < length xs → take i xs ≡ tabulate i f → v ≡ f i → take (i + 1) (set xs i v) ≡ tabulate (i + 1) f
unfolding tabulate
next f xs i v h p e = rw (add-one, take-suc-set xs i v h, p, e)

-- its end: all are stored
pub whole : {A : Type 0} (f : ℕ → A) (xs : List A) (n : ℕ) → length xs ≡ n → take n xs ≡ tabulate n f → xs ≡ tabulate n f
whole f xs n l p = sym (take_all n xs (le_of_eq l)) ∙ p

pub length-tabled : {A : Type 0} (f : ℕ → A) (n : ℕ) → length (tabulate n f) ≡ n
unfolding tabulate
length-tabled f zero = refl
length-tabled f (suc n) = rw (length-append, length-tabled f n) (omega arith)

pub tabled-at : {A : Type 0} (f : ℕ → A) (d : A) (n i : ℕ) → i < n → get_or (tabulate n f) i d ≡ f i
unfolding tabulate
tabled-at f d zero i h = absurd (omega arith)
tabled-at f d (suc n) i h = by-test (ltb i n) refl (tabled-at f d n i)
  where
    by-test : (b : Bool) → ltb i n ≡ b → (i < n → get_or (tabulate n f) i d ≡ f i) → get_or (tabulate n f ++ (f n ∷ [])) i d ≡ f i
    by-test true t earlier =
        let l = ltb-true i n t in
        get_or-append (tabulate n f) (f n ∷ []) d i (rw (length-tabled f n) l) ∙ earlier l
    by-test false t earlier =
        let e : i ≡ n = omega (arith, ltb-false i n t) in
        rw (e) (get_or_at (tabulate n f) (f n) [] d n (length-tabled f n))

-- with the elements of a list it is that list
pub first-tabled : {A : Type 0} (f : ℕ → A) (d : A) (xs : List A) (n : ℕ) → n ≤ length xs → ((i : ℕ) → i < n → f i ≡ get_or xs i d) → tabulate n f ≡ take n xs
unfolding tabulate
first-tabled f d xs zero h same = refl
first-tabled f d xs (suc n) h same =
    rw (take-suc xs n d h, first-tabled f d xs n (omega arith) (λ i l. same i (omega arith)), same n (omega arith))

pub tabled-is : {A : Type 0} (f : ℕ → A) (d : A) (xs : List A) (n : ℕ) → length xs ≡ n → ((i : ℕ) → i < n → f i ≡ get_or xs i d) → tabulate n f ≡ xs
tabled-is f d xs n l same = first-tabled f d xs n (le_of_eq (sym l)) same ∙ take_all n xs (le_of_eq l)

-- and with the same values the same list
pub tabled-same : {A : Type 0} (f g : ℕ → A) (d : A) (n : ℕ) → ((i : ℕ) → i < n → g i ≡ f i) → tabulate n g ≡ tabulate n f
tabled-same f g d n same = tabled-is g d (tabulate n f) n (length-tabled f n) (λ i l. same i l ∙ sym (tabled-at f d n i l))
