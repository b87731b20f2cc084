-- What a read gives, address by address, and what a taken write leaves to be read. Document 01, "The unit". The claim: `Readings`.
use Rattle.std.specs.Prelude.{ℕ, ◌+◌, ◌*◌, ◌%◌, ◌≤◌, ◌<◌, true, ◌≡◌, ◌≢◌, ◌⊎◌, get_or, Err, Ok}
use Rattle.words.specs.Field.{field}
use Rattle.unit.specs.declared.State.{State}
use Rattle.unit.specs.TheUnit.{none, Whole, interrupt_line}
use Rattle.unit.specs.Calls.{read_of, write_of, is_taken}
use Rattle.unit.specs.Answers.{reading_word}
use Rattle.unit.specs.declared.Refusal.TheVariants.{NoSuchAddress}

-- the addresses: register i, 0 to 11, and word i, 0 to 7, of channel c
abbrev pub register_address : ℕ → ℕ
register_address i = 0xe0a + 2 * i

abbrev pub word_address : ℕ → ℕ → ℕ
word_address c i = 0xf00 + (16 * c + 2 * i)

-- and how late the latest match service of channel c was: paper 02, #108
abbrev pub late_address : ℕ → ℕ
late_address c = 0xe40 + 2 * c

-- the number that a read there gives
abbrev pub late_word : ℕ → State → ℕ
late_word c s = reading_word (read_of s (late_address c))

-- an address of document 01's list
abbrev pub Listed : ℕ → Type 0
Listed a = (a % 2 ≡ 0) × (((0xe0a ≤ a) × (a ≤ 0xe20)) ⊎ ((0xf00 ≤ a) × (a ≤ 0xffe)))

-- one that may only be read: paper 02, #108
abbrev pub ReadOnly : ℕ → Type 0
ReadOnly a = (a % 2 ≡ 0) × (0xe40 ≤ a) × (a ≤ 0xe5e)

-- words 6 and 7 exist from channel 14 on
abbrev pub Exists : ℕ → ℕ → Type 0
Exists c i = (14 ≤ c) ⊎ (i < 6)

-- a channel whose bit is set in CIER, register 0, and in CISR, register 11
pub record BothBits (s : State) : Type 0 where
  pub channel : ℕ
  pub small : channel < 16
  pub enable : field 1 (get_or s.regs 0 0) channel ≡ 1
  pub status : field 1 (get_or s.regs 11 0) channel ≡ 1

pub record Readings : Type 0 where
  -- each register address gives its own register, each word address its own word, a missing word 0, each address of #108 its channel's
  -- number, any other address no word
  pub register : (s : State) (i : ℕ) → i < 12 → read_of s (register_address i) ≡ Ok (get_or s.regs i 0)
  pub word : (s : State) (c i : ℕ) → c < 16 → i < 8 → Exists c i → read_of s (word_address c i) ≡ Ok (get_or s.words (8 * c + i) 0)
  pub missing : (s : State) (c i : ℕ) → c < 14 → 6 ≤ i → i < 8 → read_of s (word_address c i) ≡ Ok 0
  pub late : (s : State) (c : ℕ) → c < 16 → read_of s (late_address c) ≡ Ok (get_or s.channels c none).late
  pub outside : (s : State) (a : ℕ) → (Listed a → ⊥) → (ReadOnly a → ⊥) → read_of s a ≡ Err NoSuchAddress
  -- what was written and taken is read back: a word, and a register but HSRR and CISR
  pub word-written : (s : State) (c i v : ℕ) → Whole s → c < 16 → i < 8 → Exists c i
      → is_taken (write_of s (word_address c i) v).answer ≡ true → read_of (write_of s (word_address c i) v).state (word_address c i) ≡ Ok v
  pub register-written : (s : State) (i v : ℕ) → Whole s → i < 11 → i ≢ 7 → i ≢ 8
      → is_taken (write_of s (register_address i) v).answer ≡ true → read_of (write_of s (register_address i) v).state (register_address i) ≡ Ok v
  -- CISR, bit by bit: where the word has 0 the bit is 0 afterwards, where it has 1 the bit stays
  pub cleared : (s : State) (v k : ℕ) → Whole s → field 1 v k ≡ 0 → field 1 (get_or (write_of s (register_address 11) v).state.regs 11 0) k ≡ 0
  pub kept : (s : State) (v k : ℕ) → Whole s → field 1 v k ≡ 1
      → field 1 (get_or (write_of s (register_address 11) v).state.regs 11 0) k ≡ field 1 (get_or s.regs 11 0) k
  -- the interrupt line is up just where a channel has both its bits
  pub line-up : (s : State) → BothBits s → interrupt_line s ≡ true
  pub line-why : (s : State) → get_or s.regs 0 0 ≤ 0xffff → interrupt_line s ≡ true → BothBits s
