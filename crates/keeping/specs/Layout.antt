-- A board's settings, and the block that holds them.
use Rattle.std.specs.Prelude.{ℕ, zero, suc, ◌+◌, ◌-◌, ◌*◌, ◌/◌, ◌%◌, List, [], ◌∷◌, ◌++◌, ltb, eqb}
use Rattle.words.specs.Choice.{pick}
use Rattle.unit.specs.declared.State.{State}
use Rattle.unit.specs.Gate.{place}
use Rattle.unit.specs.Calls.{word_at, Call, Write}
use Rattle.blocks.specs.Blocks.{word_in, check_word}

-- how many settings there are: 100 existing parameter words, CFSR0 to CFSR3, CPR0 and CPR1
abbrev pub settings : ℕ
settings = 106

-- the address of setting n. Channels 0 to 13 have six words each, at sixteen bytes a channel; those of 14 and 15 follow each other
unfoldable pub setting_address : ℕ → ℕ
setting_address n =
    pick (ltb n 84) (0xf00 + 16 * (n / 6) + 2 * (n % 6))
    (pick (ltb n 100) (0xfe0 + 2 * (n - 84))
    (pick (ltb n 104) (0xe0c + 2 * (n - 100)) (0xe1c + 2 * (n - 104))))

-- what the host reads there
unfoldable pub setting : State → ℕ → ℕ
setting s n = word_at s (place (setting_address n))

-- ---- a block

-- the layout of these words; another number is one that is not known
abbrev pub known_layout : ℕ
known_layout = 1

-- word i of the block, but the last: layout, version, settings, zeros
unfoldable pub held_word : State → ℕ → ℕ → ℕ
held_word s v i =
    pick (eqb i 0) known_layout
    (pick (eqb i 1) (v / 65536)
    (pick (eqb i 2) (v % 65536)
    (pick (ltb i (3 + settings)) (setting s (i - 3)) 0)))

-- word i of the block that holds the settings of s as version v
unfoldable pub block_word : State → ℕ → ℕ → ℕ
block_word s v i = pick (ltb i 255) (held_word s v i) (check_word (held_word s v))

-- ---- a load

-- the writes of the first n settings of block k
unfoldable pub setting_writes : List ℕ → ℕ → ℕ → List Call
setting_writes b k zero = []
setting_writes b k (suc n) = setting_writes b k n ++ (Write (setting_address n) (word_in b k (3 + n)) ∷ [])

-- all of them, as ordinary writes
unfoldable pub load_calls : List ℕ → ℕ → List Call
load_calls b k = setting_writes b k settings
