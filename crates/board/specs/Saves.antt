-- What a save does to the store.
use Rattle.std.specs.Prelude.{Some, Ok, Err, ℕ, ◌<◌, true, List, ◌≢◌, ◌≡◌, length}
use Rattle.unit.specs.declared.State.{State}
use Rattle.blocks.specs.declared.Search.TheVariants.{Newest}
use Rattle.blocks.specs.Blocks.{count, word_in, version, is_sound}
use Rattle.blocks.specs.Finding.{found}
use Rattle.keeping.specs.declared.Refusal.{Refusal}
use Rattle.keeping.specs.Layout.{block_word}
use Rattle.keeping.specs.Keeping.{refusal_number, place_of, save_of, store_after}

-- block k holds the settings of s as version v
unfoldable pub Holds : State → ℕ → List ℕ → ℕ → Type 0
Holds s v b k = (i : ℕ) → i < 256 → word_in b k i ≡ block_word s v i

-- a sound block of version v that the next save does not write
pub record Elsewhere (b : List ℕ) (v : ℕ) : Type 0 where
  pub block : ℕ
  pub within : block < count b
  pub other : block ≢ place_of b
  pub sound : is_sound b block ≡ true
  pub named : version b block ≡ v

-- a save of s that was taken as version v
pub record SaveIs (s : State) (b : List ℕ) (v : ℕ) : Type 0 where
  -- one block of the store is written: it holds the settings, and is sound
  pub within : place_of b < count b
  pub holds : Holds s v (store_after s b) (place_of b)
  pub sound : is_sound (store_after s b) (place_of b) ≡ true
  pub named : version (store_after s b) (place_of b) ≡ v
  -- every other block stands, word for word, and so does whether it is sound
  pub words : (j i : ℕ) → j ≢ place_of b → i < 256 → word_in (store_after s b) j i ≡ word_in b j i
  pub stands : (j : ℕ) → j ≢ place_of b → is_sound (store_after s b) j ≡ is_sound b j
  pub versions : (j : ℕ) → j ≢ place_of b → version (store_after s b) j ≡ version b j
  -- the version is greater than that of any sound block
  pub greatest : (j : ℕ) → j < count b → is_sound b j ≡ true → version b j < v
  -- and the newest version before it is still held by a block that was not written
  pub newest : (k : ℕ) → found b Newest ≡ Some k → Elsewhere b (version b k)

-- no two sound blocks have the same version
unfoldable pub Distinct : List ℕ → Type 0
Distinct b = (j k : ℕ) → j < count b → k < count b → is_sound b j ≡ true → is_sound b k ≡ true → version b j ≡ version b k → j ≡ k

pub record Saves : Type 0 where
  pub taken : (s : State) (b : List ℕ) (v : ℕ) → save_of b ≡ Ok v → SaveIs s b v
  -- a refused save has the number 12 and changes no byte
  pub refused : (s : State) (b : List ℕ) (r : Refusal) → save_of b ≡ Err r → (refusal_number r ≡ 12) × (store_after s b ≡ b)
  pub long : (s : State) (b : List ℕ) → length (store_after s b) ≡ length b
  -- where versions are distinct they stay so: then the newest block itself is never written over
  pub distinct : (s : State) (b : List ℕ) → Distinct b → Distinct (store_after s b)
  pub newest-block : (s : State) (b : List ℕ) (k v : ℕ) → Distinct b → save_of b ≡ Ok v → found b Newest ≡ Some k → k ≢ place_of b
