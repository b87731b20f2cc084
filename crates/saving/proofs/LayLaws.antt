-- One setting read, one word of a block more.
use Rattle.std.proofs.Common.{◌≡◌, ℕ, ◌+◌, ◌-◌, ◌%◌, List, Ok, Err, refl, add-one}
use Rattle.std.specs.Result.{result_unwrap_or}
use Rattle.words.specs.Choice.{ask}
use Rattle.unit.specs.declared.State.{State}
use Rattle.unit.specs.declared.Refusal.TheVariants.{NoSuchAddress}
use Rattle.unit.specs.Refusals.{Reading}
use Rattle.unit.specs.declared.Place.{Place}
use Rattle.unit.specs.declared.Place.TheVariants.{AtRegister, AtWord, AtLate, Nowhere}
use Rattle.unit.specs.Gate.{place, is_place, in_list}
use Rattle.unit.specs.Calls.{word_at, read_of}
use Rattle.blocks.specs.Blocks.{with_word, laid, sum, check_word}
use Rattle.keeping.specs.Layout.{setting_address, setting, held_word, block_word}

read-shows : (s : State) (p : Place) → result_unwrap_or (ask {A = Reading} (is_place p) (Err NoSuchAddress) (Ok (word_at s p))) 0 ≡ word_at s p
unfolding ask is_place word_at
read-shows s (AtRegister i) = refl
read-shows s (AtWord c i) = refl
read-shows s (AtLate c) = refl
read-shows s Nowhere = refl

-- a setting reads as its word, and where there is none as 0
pub reads-setting : (s : State) (n : ℕ) → result_unwrap_or (read_of s (setting_address n)) 0 ≡ setting s n
unfolding read_of in_list setting
reads-setting s n = read-shows s (place (setting_address n))

-- ---- a block

-- one word more is laid
pub laid_next : (f : ℕ → ℕ) (b was is : List ℕ) (k i w : ℕ) → was ≡ laid f b k i → is ≡ with_word was k i w → w ≡ f i → is ≡ laid f b k (i + 1)
unfolding laid
laid_next f b was is k i w e g h = rw (add-one, g, e, h)

pub check-block : (s : State) (v total : ℕ) → total ≡ sum (held_word s v) 255 % 65536 → 0xffff - total ≡ block_word s v 255
unfolding block_word check_word
check-block s v total e = rw e
