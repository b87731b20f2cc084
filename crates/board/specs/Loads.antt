-- What a load does to the unit.
use Rattle.std.specs.Prelude.{Ok, Err, ℕ, ◌+◌, ◌*◌, ◌≤◌, ◌<◌, Bool, true, false, ◌&&◌, ◌||◌, List, ◌≢◌, ◌⊎◌, ◌≡◌, leb, length}
use Rattle.unit.specs.declared.State.{State}
use Rattle.unit.specs.declared.Place.{Place}
use Rattle.unit.specs.declared.Place.TheVariants.{AtRegister, AtWord, AtLate}
use Rattle.unit.specs.TheUnit.{Whole, reg, channel, word, exists, is_bound}
use Rattle.unit.specs.Gate.{place}
use Rattle.unit.specs.Calls.{is_taken, write_of, run}
use Rattle.unit.specs.Takes.{pending, Free}
use Rattle.blocks.specs.Blocks.{word_in, version, is_sound}
use Rattle.keeping.specs.declared.Refusal.{Refusal}
use Rattle.keeping.specs.declared.Refusal.TheVariants.{NotFree, NoVersion, UnknownLayout}
use Rattle.keeping.specs.declared.Which.{Which}
use Rattle.keeping.specs.declared.Which.TheVariants.{Latest, Version}
use Rattle.keeping.specs.Layout.{settings, setting_address, setting, setting_writes, load_calls}
use Rattle.keeping.specs.Keeping.{refusal_number, load_of}

-- the registers among the settings: CFSR0 to CFSR3 and CPR0, CPR1
unfoldable pub is_setting_register : ℕ → Bool
is_setting_register i = (leb 1 i && leb i 4) || (leb 9 i && leb i 10)

-- some setting stands at this place
pub record SettingAt (p : Place) : Type 0 where
  pub number : ℕ
  pub within : number < settings
  pub stands : place (setting_address number) ≡ p

-- the settings are all existing parameter words, by address, and these registers
pub record Addresses : Type 0 where
  pub words : (c i : ℕ) → c < 16 → i < 8 → exists c i ≡ true → SettingAt (AtWord c i)
  pub registers : (i : ℕ) → is_setting_register i ≡ true → SettingAt (AtRegister i)
  pub by_address : (m n : ℕ) → m < n → n < 100 → setting_address m < setting_address n
  -- none of them is the number of a service that was late
  pub none-late : (n c : ℕ) → n < settings → place (setting_address n) ≢ AtLate c

-- ---- the block that is loaded

-- n blocks of 512 bytes, 2 to 128
pub record HasBlocks (b : List ℕ) (n : ℕ) : Type 0 where
  pub long : length b ≡ 512 * n
  pub least : 2 ≤ n
  pub most : n ≤ 128

-- block k is sound, and has the version where one is named
unfoldable pub Sought : List ℕ → Which → ℕ → Type 0
Sought b Latest k = is_sound b k ≡ true
Sought b (Version v) k = (is_sound b k ≡ true) × (version b k ≡ v)

-- block k is to be loaded: no block that is sought has a greater version, and each before it has a smaller one
pub record ToLoad (b : List ℕ) (w : Which) (k : ℕ) : Type 0 where
  pub blocks : ℕ
  pub store : HasBlocks b blocks
  pub within : k < blocks
  pub sought : Sought b w k
  pub highest : (j : ℕ) → j < blocks → Sought b w j → version b j ≤ version b k
  pub first : (j : ℕ) → j < k → Sought b w j → version b j < version b k

-- ---- the unit after it

-- what a load leaves alone, from s to t: HSRR, CISR, CIER, HSQR, pins, timers, slots, missing words, and of a channel all but that it is uninitialised
pub record Leaves (s t : State) : Type 0 where
  pub registers : (i : ℕ) → is_setting_register i ≡ false → reg t i ≡ reg s i
  pub pins : t.pins ≡ s.pins
  pub clock : t.timers ≡ s.timers
  pub slots : t.slots ≡ s.slots
  pub missing : (c i : ℕ) → i < 8 → exists c i ≡ false → word t c i ≡ word s c i
  pub uninitialised : (c : ℕ) → c < 16 → (channel t c).initialised ≡ false
  pub kinds : (c : ℕ) → (channel t c).kind ≡ (channel s c).kind
  pub timers : (c : ℕ) → (channel t c).timer ≡ (channel s c).timer
  pub levels : (c : ℕ) → (channel t c).level ≡ (channel s c).level
  pub ways : (c : ℕ) → (channel t c).way ≡ (channel s c).way
  pub phases : (c : ℕ) → (channel t c).phase ≡ (channel s c).phase
  pub late : (c : ℕ) → (channel t c).late ≡ (channel s c).late

-- all sixteen channels are free
unfoldable pub AllFree : State → Type 0
AllFree s = (c : ℕ) → c < 16 → Free c s

pub record Loads : Type 0 where
  -- with all channels free none of the writes is refused
  pub each-taken : (s : State) (b : List ℕ) (k n : ℕ) → AllFree s → n < settings
      → is_taken (write_of (run s (setting_writes b k n)) (setting_address n) (word_in b k (3 + n))).answer ≡ true
  -- the settings are then those of the block
  pub brings : (s : State) (b : List ℕ) (k n : ℕ) → Whole s → AllFree s → n < settings → setting (run s (load_calls b k)) n ≡ word_in b k (3 + n)
  pub leaves : (s : State) (b : List ℕ) (k : ℕ) → Whole s → AllFree s → Leaves s (run s (load_calls b k))
  -- whatever the channels do, 12 stands for bytes of another length and for a store without a sound block, or without one of the named version
  pub store_length : (s : State) (w : Which) (b : List ℕ) → ((n : ℕ) → HasBlocks b n → ⊥) → (load_of s w b).answer ≡ Err NoVersion
  pub none-sound : (s : State) (w : Which) (b : List ℕ) → ((j : ℕ) → 512 * j + 512 ≤ length b → Sought b w j → ⊥) → (load_of s w b).answer ≡ Err NoVersion
  -- and 13 for a block to load of another layout than 1
  pub layout : (s : State) (w : Which) (b : List ℕ) (k : ℕ) → ToLoad b w k → word_in b k 0 ≢ 1 → (load_of s w b).answer ≡ Err UnknownLayout
  -- else 2 where some channel is bound or has another field than 00 in HSRR
  pub question-2 : (s : State) (w : Which) (b : List ℕ) (k c : ℕ) → ToLoad b w k → word_in b k 0 ≡ 1 → c < 16
      → (is_bound s c ≡ true) ⊎ (pending c s ≢ 0) → (load_of s w b).answer ≡ Err NotFree
  -- and where none is, the writes of the block are played in
  pub taken : (s : State) (w : Which) (b : List ℕ) (k : ℕ) → ToLoad b w k → word_in b k 0 ≡ 1 → AllFree s
      → load_of s w b ≡ record { answer = Ok (version b k); state = run s (load_calls b k) }
  -- there is no other number, and a refused load changes nothing
  pub numbers : (s : State) (w : Which) (b : List ℕ) (r : Refusal) → (load_of s w b).answer ≡ Err r
      → (refusal_number r ≡ 12) ⊎ ((refusal_number r ≡ 13) ⊎ (refusal_number r ≡ 2))
  pub refused : (s : State) (w : Which) (b : List ℕ) (r : Refusal) → (load_of s w b).answer ≡ Err r → (load_of s w b).state ≡ s
