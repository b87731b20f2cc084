-- What was saved is what a load plays in.
use Rattle.std.specs.Prelude.{Ok, ℕ, ◌<◌, List, [], ◌∷◌, ◌≢◌, ◌⊎◌, ◌≡◌}
use Rattle.unit.specs.declared.State.{State}
use Rattle.keeping.specs.declared.Which.{Which}
use Rattle.keeping.specs.declared.Which.TheVariants.{Latest, Version}
use Rattle.keeping.specs.declared.Loaded.{Loaded}
use Rattle.keeping.specs.Layout.{settings, setting}
use Rattle.keeping.specs.Keeping.{place_of, save_of, store_after, load_of}
use Rattle.board.specs.Saves.{Holds}
use Rattle.board.specs.Loads.{ToLoad, Leaves, AllFree}
use Rattle.unit.specs.TheUnit.{Whole}

-- a load from t that brought back what was saved of s as version v
pub record Restored (s t : State) (v : ℕ) (r : Loaded) : Type 0 where
  pub answer : r.answer ≡ Ok v
  pub same : (n : ℕ) → n < settings → setting r.state n ≡ setting s n
  pub leaves : Leaves t r.state

-- the store after the states of a list were saved, one after another
unfoldable pub store_after_all : List State → List ℕ → List ℕ
store_after_all [] b = b
store_after_all (u ∷ us) b = store_after_all us (store_after u b)

-- each of these saves is refused or goes to another block than k
unfoldable pub Spares : ℕ → List State → List ℕ → Type 0
Spares k [] b = Unit {0}
Spares k (u ∷ us) b = ((x : ℕ) → save_of b ≡ Ok x → k ≢ place_of b) × Spares k us (store_after u b)

pub record RoundTrip : Type 0 where
  -- right after a save: the newest version, and that version by its number
  pub at-once : (s t : State) (b : List ℕ) (v : ℕ) (w : Which) → save_of b ≡ Ok v → (w ≡ Latest) ⊎ (w ≡ Version v) → Whole t → AllFree t
      → Restored s t v (load_of t w (store_after s b))
  -- at any time while a block holds it and is the one to load
  pub later : (s t : State) (b : List ℕ) (v k : ℕ) (w : Which) → Holds s v b k → ToLoad b w k → Whole t → AllFree t
      → Restored s t v (load_of t w b)
  -- any further saves, of any states us, that spare the block leave it so
  pub kept : (s : State) (us : List State) (b : List ℕ) (v k : ℕ) → Holds s v b k → ToLoad b (Version v) k → Spares k us b
      → Holds s v (store_after_all us b) k × ToLoad (store_after_all us b) (Version v) k
