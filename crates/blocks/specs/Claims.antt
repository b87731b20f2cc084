-- What holds of every store.
use Rattle.std.specs.Prelude.{◌≡◌, ℕ, Some, None, ◌%◌, ◌<◌, ◌≤◌, true, false, ◌≢◌, List, slice_index}
use Rattle.blocks.specs.declared.Search.{Search}
use Rattle.blocks.specs.Blocks.{count, word_in, sum, is_sound}
use Rattle.blocks.specs.Finding.{fits, rank, found}

-- its elements are bytes
unfoldable pub Bytes : List ℕ → Type 0
Bytes b = (i : ℕ) → slice_index b i ≤ 255

-- the blocks k of b and l of c differ in the word i and in no other
pub record DifferIn (b : List ℕ) (k : ℕ) (c : List ℕ) (l i : ℕ) : Type 0 where
  pub within : i < 256
  pub others : (j : ℕ) → j < 256 → j ≢ i → word_in b k j ≡ word_in c l j
  pub changed : word_in b k i ≢ word_in c l i

pub record Sound : Type 0 where
  -- a block is sound where its 256 words sum to $FFFF, modulo 65,536
  pub sums : (b : List ℕ) (k : ℕ) → Bytes b → is_sound b k ≡ true → sum (word_in b k) 256 % 65536 ≡ 0xffff
  pub sums-back : (b : List ℕ) (k : ℕ) → Bytes b → sum (word_in b k) 256 % 65536 ≡ 0xffff → is_sound b k ≡ true
  -- one changed word always makes a sound block unsound
  pub one_word : (b : List ℕ) (k : ℕ) (c : List ℕ) (l i : ℕ) → Bytes b → Bytes c → DifferIn b k c l i → is_sound b k ≡ true → is_sound c l ≡ false
  -- a block of zeros is unsound, and so is one of $FF
  pub zeros : (b : List ℕ) (k : ℕ) → ((i : ℕ) → i < 256 → word_in b k i ≡ 0) → is_sound b k ≡ false
  pub ones : (b : List ℕ) (k : ℕ) → ((i : ℕ) → i < 256 → word_in b k i ≡ 0xffff) → is_sound b k ≡ false

-- the block that is found: of the kind that is sought, none ranks above it, and before it each ranks below
pub record Best (b : List ℕ) (w : Search) (k : ℕ) : Type 0 where
  pub within : k < count b
  pub sought : fits b w k ≡ true
  pub highest : (j : ℕ) → j < count b → fits b w j ≡ true → rank b w j ≤ rank b w k
  pub first : (j : ℕ) → j < k → fits b w j ≡ true → rank b w j < rank b w k

pub record Finds : Type 0 where
  pub at : (b : List ℕ) (w : Search) (k : ℕ) → found b w ≡ Some k → Best b w k
  pub only : (b : List ℕ) (w : Search) (k : ℕ) → Best b w k → found b w ≡ Some k
  pub missing : (b : List ℕ) (w : Search) → found b w ≡ None → (j : ℕ) → j < count b → fits b w j ≡ false
