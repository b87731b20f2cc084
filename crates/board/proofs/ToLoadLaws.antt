-- The block that a load takes, from its definition and back.
use Rattle.std.proofs.Common.{Option, Some, None}
use Prim.Native.Nat.{ℕ, ◌*◌, ◌/◌, ◌%◌, ◌+◌, ◌≤◌, ◌<◌}
use native.Mathlib.Omega.{arith}
use mathlib.Core.Bool.{true, ◌&&◌}
use mathlib.Core.List.{List}
use mathlib.Core.Path.{◌≡◌, refl}
use lib.Dec.{leb, eqb}
use lib.ListN.{length}
use borrow.Author.Tests.{le-leb, leb-true, eq-eqb, eqb-true}
use Rattle.words.proofs.ChoiceLaws.{holds, and_left, and_right}
use Rattle.blocks.specs.Blocks.{is_store, count, version, is_sound}
use Rattle.blocks.specs.Finding.{fits, rank, found}
use Rattle.blocks.proofs.WordLaws.{no_store, count-good}
use Rattle.blocks.proofs.FindingLaws.{finds}
use Rattle.keeping.specs.declared.Which.{Which}
use Rattle.keeping.specs.declared.Which.TheVariants.{Latest, Version}
use Rattle.keeping.specs.Keeping.{sought}
use Rattle.board.specs.Loads.{HasBlocks, Sought, ToLoad}

-- ---- how many blocks

has-store : (b : List ℕ) (n : ℕ) → HasBlocks b n → is_store b ≡ true
unfolding is_store
has-store b n h =
    let q : length b / 512 ≡ n = omega (arith, h.long) in
    rw (eq-eqb (length b % 512) 0 (omega (arith, h.long)), q, le-leb 2 n h.least) (le-leb n 128 h.most)

pub has-count : (b : List ℕ) (n : ℕ) → HasBlocks b n → count b ≡ n
unfolding count
has-count b n h = rw (has-store b n h) (omega (arith, h.long))

store-has : (b : List ℕ) → is_store b ≡ true → HasBlocks b (count b)
unfolding is_store count
store-has b e =
    let n = length b / 512 in
    let within : (leb 2 n && leb n 128) ≡ true = and_right (eqb (length b % 512) 0) _ e in
    let whole = eqb-true (length b % 512) 0 (and_left (eqb (length b % 512) 0) _ e) in
    rw e record {
      long = omega arith;
      least = leb-true 2 n (and_left (leb 2 n) (leb n 128) within);
      most = leb-true n 128 (and_right (leb 2 n) (leb n 128) within);
    }

block-store : (b : List ℕ) (k : ℕ) → k < count b → is_store b ≡ true
block-store b k l = holds (is_store b) (λ e. omega (arith, no_store b e))

-- ---- the block that is found

fits-sought : (b : List ℕ) (w : Which) (k : ℕ) → fits b (sought w) k ≡ true → Sought b w k
unfolding fits sought Sought
fits-sought b Latest k e = e
fits-sought b (Version v) k e = (and_left (is_sound b k) _ e, eqb-true (version b k) v (and_right (is_sound b k) _ e))

sought-fits : (b : List ℕ) (w : Which) (k : ℕ) → Sought b w k → fits b (sought w) k ≡ true
unfolding fits sought Sought
sought-fits b Latest k e = e
sought-fits b (Version v) k e = rw e.0 (eq-eqb (version b k) v e.1)

-- a block that is sought ranks above another just where its version is greater
rank-least : (b : List ℕ) (w : Which) (j k : ℕ) → version b j ≤ version b k → rank b (sought w) j ≤ rank b (sought w) k
unfolding rank sought
rank-least b Latest j k l = l
rank-least b (Version v) j k l = omega arith

rank_below : (b : List ℕ) (w : Which) (j k : ℕ) → Sought b w j → Sought b w k → version b j < version b k
    → rank b (sought w) j < rank b (sought w) k
unfolding rank sought Sought
rank_below b Latest j k x y l = l
rank_below b (Version v) j k x y l = absurd (omega (arith, x.1, y.1))

least-rank : (b : List ℕ) (w : Which) (j k : ℕ) → Sought b w j → Sought b w k → rank b (sought w) j ≤ rank b (sought w) k
    → version b j ≤ version b k
unfolding rank sought Sought
least-rank b Latest j k x y l = l
least-rank b (Version v) j k x y l = omega (arith, x.1, y.1)

below-rank : (b : List ℕ) (w : Which) (j k : ℕ) → rank b (sought w) j < rank b (sought w) k → version b j < version b k
unfolding rank sought
below-rank b Latest j k l = l
below-rank b (Version v) j k l = absurd (omega arith)

pub to-load-found : (b : List ℕ) (w : Which) (k : ℕ) → ToLoad b w k → found b (sought w) ≡ Some k
to-load-found b w k x =
    let n = has-count b x.blocks x.store in
    finds.only b (sought w) k
    record {
      within = rw n x.within;
      sought = sought-fits b w k x.sought;
      highest = λ j l fit. rank-least b w j k (x.highest j (rw n at l) (fits-sought b w j fit));
      first = λ j l fit.
          let y = fits-sought b w j fit in
          rank_below b w j k y x.sought (x.first j l y);
    }

pub found-to-load : (b : List ℕ) (w : Which) (k : ℕ) → found b (sought w) ≡ Some k → ToLoad b w k
found-to-load b w k e =
    let best = finds.at b (sought w) k e in
    let own = fits-sought b w k best.sought in
    record {
      blocks = count b;
      store = store-has b (block-store b k best.within);
      within = best.within;
      sought = own;
      highest = λ j l x. least-rank b w j k x own (best.highest j l (sought-fits b w j x));
      first = λ j l x. below-rank b w j k (best.first j l (sought-fits b w j x));
    }

-- ---- nothing is found

none_found : (b : List ℕ) (w : Which) → ((k : ℕ) → found b (sought w) ≡ Some k → ⊥) → found b (sought w) ≡ None
none_found b w no_block = told (found b (sought w)) refl
  where
    told : (f : Option ℕ) → found b (sought w) ≡ f → found b (sought w) ≡ None
    told None e = e
    told (Some k) e = absurd (no_block k e)

pub none-in-other : (b : List ℕ) (w : Which) → ((n : ℕ) → HasBlocks b n → ⊥) → found b (sought w) ≡ None
none-in-other b w other = none_found b w (λ k e. other (found-to-load b w k e).blocks (found-to-load b w k e).store)

pub none-sought : (b : List ℕ) (w : Which) → ((j : ℕ) → 512 * j + 512 ≤ length b → Sought b w j → ⊥) → found b (sought w) ≡ None
none-sought b w no_block =
    none_found b w
    (λ k e.
    let best = finds.at b (sought w) k e in
    no_block k (count-good b k best.within) (fits-sought b w k best.sought))
