-- The two calls of the store: what they answer, and what is after them.
use Rattle.std.specs.Prelude.{ℕ, suc, Bool, ◌&&◌, List, ltb, eqb, Option, Some, None, Result, Ok, Err}
use Rattle.words.specs.Choice.{pick, ask}
use Rattle.unit.specs.declared.State.{State}
use Rattle.unit.specs.TheUnit.{all}
use Rattle.unit.specs.Gate.{is_free}
use Rattle.unit.specs.Calls.{run}
use Rattle.blocks.specs.declared.Search.{Search}
use Rattle.blocks.specs.declared.Search.TheVariants.{Newest, Named, Oldest, Unsound}
use Rattle.blocks.specs.Blocks.{is_store, word_in, laid, version}
use Rattle.blocks.specs.Finding.{found}
use Rattle.keeping.specs.declared.Refusal.{Refusal}
use Rattle.keeping.specs.declared.Refusal.TheVariants.{NotFree, NoVersion, UnknownLayout}
use Rattle.keeping.specs.declared.Which.{Which}
use Rattle.keeping.specs.declared.Which.TheVariants.{Latest, Version}
use Rattle.keeping.specs.declared.Loaded.{Loaded}
use Rattle.keeping.specs.Layout.{known_layout, block_word, load_calls}

-- ---- an answer

-- the number of the question that has a no
abbrev pub refusal_number : Refusal → ℕ
refusal_number NotFree = 2
refusal_number NoVersion = 12
refusal_number UnknownLayout = 13

-- its number, 0 where the call is taken
unfoldable pub number_of : Result ℕ Refusal → ℕ
number_of (Ok v) = 0
number_of (Err r) = refusal_number r

-- the version that was saved or loaded, 0 where the call is refused
unfoldable pub version_of : Result ℕ Refusal → ℕ
version_of (Ok v) = v
version_of (Err r) = 0

-- ---- save

-- the version of a block that was found, 0 where there is none
unfoldable pub version_at : List ℕ → Option ℕ → ℕ
version_at b None = 0
version_at b (Some k) = version b k

-- the greatest sound version
unfoldable pub greatest : List ℕ → ℕ
greatest b = version_at b (found b Newest)

-- where a save is written: an unsound block if there is one, else the oldest
unfoldable pub or_oldest : List ℕ → Option ℕ → Option ℕ
or_oldest b (Some k) = Some k
or_oldest b None = found b Oldest

unfoldable pub block_at : Option ℕ → ℕ
block_at (Some k) = k
block_at None = 0

unfoldable pub place_of : List ℕ → ℕ
place_of b = block_at (or_oldest b (found b Unsound))

-- the versions end at 4,294,967,295, even where a block is free
unfoldable pub may_save : List ℕ → Bool
may_save b = is_store b && ltb (greatest b) 0xffffffff

-- the version that was saved, or 12
unfoldable pub save_of : List ℕ → Result ℕ Refusal
save_of b = pick (may_save b) (Ok (suc (greatest b))) (Err NoVersion)

-- the same in numbers
unfoldable pub save_number : List ℕ → ℕ
save_number b = pick (may_save b) 0 12

unfoldable pub save_version : List ℕ → ℕ
save_version b = pick (may_save b) (suc (greatest b)) 0

-- the store after it
unfoldable pub store_after : State → List ℕ → List ℕ
store_after s b = pick (may_save b) (laid (block_word s (suc (greatest b))) b (place_of b) 256) b

-- ---- load

unfoldable pub sought : Which → Search
sought Latest = Newest
sought (Version v) = Named v

-- the block that is taken, or the store's own no: 12 where there is none, 13 where its layout is not known
unfoldable pub chosen_in : List ℕ → Option ℕ → Result ℕ Refusal
chosen_in b None = Err NoVersion
chosen_in b (Some k) = ask (eqb (word_in b k 0) known_layout) (Err UnknownLayout) (Ok k)

unfoldable pub chosen : List ℕ → Which → Result ℕ Refusal
chosen b w = chosen_in b (found b (sought w))

-- no channel is bound or has a pending request
unfoldable pub all_free : State → Bool
all_free s = all 16 0 (is_free s)

-- the version that was loaded, or the number of the no, and the state after it; question 2 comes last
unfoldable pub load_from : State → List ℕ → Result ℕ Refusal → Loaded
load_from s b (Err r) = record { answer = Err r; state = s }
load_from s b (Ok k) =
    ask (all_free s) record { answer = Err NotFree; state = s } record { answer = Ok (version b k); state = run s (load_calls b k) }

unfoldable pub load_of : State → Which → List ℕ → Loaded
load_of s w b = load_from s b (chosen b w)

-- its answer in numbers, by the block that is taken
unfoldable pub load_number : State → Result ℕ Refusal → ℕ
load_number s (Err r) = refusal_number r
load_number s (Ok k) = pick (all_free s) 0 2

unfoldable pub load_version : State → List ℕ → Result ℕ Refusal → ℕ
load_version s b (Err r) = 0
load_version s b (Ok k) = pick (all_free s) (version b k) 0
