-- A store as bytes: blocks of 512, each of 256 words, high byte first.
use Rattle.std.specs.Prelude.{ℕ, zero, suc, ◌+◌, ◌-◌, ◌*◌, ◌/◌, ◌%◌, Bool, ◌&&◌, List, length, ◌==◌, nat_le, slice_index, slice_set}
use Rattle.words.specs.Choice.{pick}

-- ---- its blocks

-- 2 to 128 whole blocks
unfoldable pub is_store : List ℕ → Bool
is_store b = length b % 512 == 0 && (nat_le 2 (length b / 512) && nat_le (length b / 512) 128)

-- how many blocks a store has; bytes of another length have none
unfoldable pub count : List ℕ → ℕ
count b = pick (is_store b) (length b / 512) 0

-- ---- the words of a block

-- word i of block k
unfoldable pub word_in : List ℕ → ℕ → ℕ → ℕ
word_in b k i = 256 * slice_index b (512 * k + 2 * i) + slice_index b (512 * k + 2 * i + 1)

-- the bytes with w as word i of block k, all else as it was
unfoldable pub with_word : List ℕ → ℕ → ℕ → ℕ → List ℕ
with_word b k i w = slice_set (slice_set b (512 * k + 2 * i) (w / 256)) (512 * k + 2 * i + 1) (w % 256)

-- the bytes with f 0 up to f (n - 1) as the first n words of block k
unfoldable pub laid : (ℕ → ℕ) → List ℕ → ℕ → ℕ → List ℕ
laid f b k zero = b
laid f b k (suc n) = with_word (laid f b k n) k n (f n)

-- a version: high word first
unfoldable pub version : List ℕ → ℕ → ℕ
version b k = 65536 * word_in b k 1 + word_in b k 2

-- ---- soundness

-- f 0 + f 1 and so on up to f (n - 1)
unfoldable pub sum : (ℕ → ℕ) → ℕ → ℕ
sum f zero = 0
sum f (suc n) = sum f n + f n

-- the last word of a block whose words are f: what the other 255, summed modulo 65,536, leave of $FFFF
unfoldable pub check_word : (ℕ → ℕ) → ℕ
check_word f = 0xffff - sum f 255 % 65536

-- sound: the last word is as it should be; the others may hold anything
unfoldable pub is_sound : List ℕ → ℕ → Bool
is_sound b k = word_in b k 255 == check_word (word_in b k)
