-- The state in 211 words: 128 parameter words, 12 registers, TCR1, TCR2, the pins, 16 words of flags, 16 times, the slot, where the search
-- of each level begins, high, middle, low, how late each of 16 channels was, and 16 times for which matches that have happened were set.
use Rattle.std.specs.Prelude.{ℕ, zero, suc, ◌+◌, ◌-◌, Bool, List, [], ◌∷◌, ◌++◌, ◌≡◌, length, take, drop, get_or, set, replicate, eqb, ltb}
use Rattle.words.specs.Choice.{pick}
use Rattle.slots.specs.declared.Slots.{Slots}
use Rattle.unit.specs.declared.Latches.{Latches}
use Rattle.unit.specs.declared.State.{State}
use Rattle.unit.specs.TheUnit.{none, reset_state}

-- how many words hold a state
abbrev pub state_words : ℕ
state_words = 211

-- f 0, f 1 and so on up to f (n - 1)
unfoldable pub tabulate : {A : Type 0} → ℕ → (ℕ → A) → List A
tabulate zero f = []
tabulate (suc n) f = tabulate n f ++ (f n ∷ [])

-- ---- a state as words

-- word i
unfoldable pub packed_word : State → ℕ → ℕ
packed_word st i =
    pick (ltb i 128) (get_or st.words i 0)
    (pick (ltb i 140) (get_or st.regs (i - 128) 0)
    (pick (ltb i 141) st.timers.tcr1
    (pick (ltb i 142) st.timers.tcr2
    (pick (ltb i 143) st.pins
    (pick (ltb i 159) (get_or st.channels (i - 143) none).flags
    (pick (ltb i 175) (get_or st.channels (i - 159) none).time
    (pick (ltb i 176) st.slots.slot
    (pick (ltb i 177) st.slots.high
    (pick (ltb i 178) st.slots.middle
    (pick (ltb i 179) st.slots.low
    (pick (ltb i 195) (get_or st.channels (i - 179) none).late
    (get_or st.channels (i - 195) none).set)))))))))))

unfoldable pub packed : State → List ℕ
packed st = tabulate state_words (packed_word st)

-- as many words, all 0
unfoldable pub zeros : List ℕ
zeros = replicate state_words 0

-- they are so many
unfoldable pub is_whole : List ℕ → Bool
is_whole s = eqb (length s) state_words

-- these words with a row from `at` on
unfoldable pub row_laid : List ℕ → ℕ → List ℕ → List ℕ
row_laid s at row = take at s ++ (row ++ drop (length row) (drop at s))

-- these words with the numbers k kept of channel i
abbrev pub latches_laid : List ℕ → ℕ → Latches → List ℕ
latches_laid s i k = set (set (set (set s (143 + i) k.flags) (159 + i) k.time) (179 + i) k.late) (195 + i) k.set

-- lent words after the state is laid in them
unfoldable pub laid : State → List ℕ → List ℕ
laid st s = pick (is_whole s) (packed st) s

-- ---- words as a state

abbrev pub word_in : List ℕ → ℕ → ℕ
word_in s i = get_or s i 0

abbrev pub reg_in : List ℕ → ℕ → ℕ
reg_in s i = get_or s (128 + i) 0

abbrev pub latches_in : List ℕ → ℕ → Latches
latches_in s i = record { flags = get_or s (143 + i) 0; time = get_or s (159 + i) 0; late = get_or s (179 + i) 0; set = get_or s (195 + i) 0 }

abbrev pub slots_in : List ℕ → Slots
slots_in s = record { slot = get_or s 175 0; high = get_or s 176 0; middle = get_or s 177 0; low = get_or s 178 0 }

unfoldable pub state_in : List ℕ → State
state_in s =
    record {
      words = tabulate 128 (word_in s);
      regs = tabulate 12 (reg_in s);
      timers = record { tcr1 = get_or s 140 0; tcr2 = get_or s 141 0 };
      pins = get_or s 142 0;
      channels = tabulate 16 (latches_in s);
      slots = record { slot = get_or s 175 0; high = get_or s 176 0; middle = get_or s 177 0; low = get_or s 178 0 };
    }

-- these words hold this state
abbrev pub Holds : List ℕ → State → Type 0
Holds t st = (length t ≡ state_words) × (state_in t ≡ st)

-- every content is a state; words of another number are the one after reset
unfoldable pub unpacked : List ℕ → State
unpacked s = pick (is_whole s) (state_in s) reset_state
