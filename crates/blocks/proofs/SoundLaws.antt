-- Sums of words, and what is known of a sound block.
use Rattle.std.proofs.Common.{◌≡◌, ℕ, zero, suc, ◌+◌, ◌-◌, ◌*◌, ◌%◌, ◌<◌, ◌≤◌, true, false, eqb, ◌≢◌, List, refl, ap, ⊎_elim, suc-mul, eq-or-lt_of_le, arith, eq-eqb, eqb-true}
use Rattle.words.proofs.ChoiceLaws.{fails}
use Rattle.blocks.specs.Blocks.{word_in, sum, check_word, is_sound}
use Rattle.blocks.specs.Claims.{Bytes, DifferIn, Sound}

-- ---- sums

-- by name, so that a numeral is not counted down
sum-next : (f : ℕ → ℕ) (n : ℕ) → sum f (suc n) ≡ sum f n + f n
unfolding sum
sum-next f n = refl

pub sum_same : (f g : ℕ → ℕ) (n : ℕ) → ((j : ℕ) → j < n → f j ≡ g j) → sum f n ≡ sum g n
unfolding sum
sum_same f g zero same = refl
sum_same f g (suc n) same = rw (sum_same f g n (λ j l. same j (omega arith)), same n (omega arith))

-- the sums of functions that agree but at i differ as these do at i
pub sum-but-one : (f g : ℕ → ℕ) (n i : ℕ) → i < n → ((j : ℕ) → j < n → j ≢ i → f j ≡ g j)
    → sum f n + g i ≡ sum g n + f i
unfolding sum
sum-but-one f g zero i l same = elim l [ ]
sum-but-one f g (suc n) i l same =
    ⊎_elim
    (λ e.
    let before : sum f n ≡ sum g n = sum_same f g n (λ j m. same j (omega arith) (λ d. omega arith)) in
    omega (arith, ap f e, ap g e))
    (λ m.
    let before = sum-but-one f g n i m (λ j k d. same j (omega arith) d) in
    let last = same n (omega arith) (λ d. omega arith) in
    omega arith)
    (eq-or-lt_of_le {n = i} {m = n} (omega arith))

sum_alike : (f : ℕ → ℕ) (v n : ℕ) → ((j : ℕ) → j < n → f j ≡ v) → sum f n ≡ n * v
unfolding sum
sum_alike f v zero same = omega arith
sum_alike f v (suc n) same = rw (suc-mul n v, sum_alike f v n (λ j l. same j (omega arith)), same n (omega arith))

-- ---- one block

pub word_fits : (b : List ℕ) (k i : ℕ) → Bytes b → word_in b k i ≤ 0xffff
unfolding word_in Bytes
word_fits b k i bytes = omega (arith, bytes (512 * k + 2 * i), bytes (512 * k + 2 * i + 1))

sums : (b : List ℕ) (k : ℕ) → is_sound b k ≡ true → sum (word_in b k) 256 % 65536 ≡ 0xffff
unfolding is_sound check_word
sums b k sound =
    let all = sum-next (word_in b k) 255 in
    let last = eqb-true (word_in b k 255) (check_word (word_in b k)) sound in
    omega arith

sums-back : (b : List ℕ) (k : ℕ) → Bytes b → sum (word_in b k) 256 % 65536 ≡ 0xffff → is_sound b k ≡ true
unfolding is_sound check_word
sums-back b k bytes e =
    let fits = word_fits b k 255 bytes in
    let all = sum-next (word_in b k) 255 in
    eq-eqb (word_in b k 255) (check_word (word_in b k)) (omega arith)

one_word : (b : List ℕ) (k : ℕ) (c : List ℕ) (l i : ℕ) → Bytes b → Bytes c → DifferIn b k c l i
    → is_sound b k ≡ true → is_sound c l ≡ false
one_word b k c l i bytes-b bytes-c d sound =
    fails (is_sound c l)
    (λ still.
    let apart = sum-but-one (word_in b k) (word_in c l) 256 i d.within d.others in
    let fits-b = word_fits b k i bytes-b in
    let fits-c = word_fits c l i bytes-c in
    let sum-b = sums b k sound in
    let sum-c = sums c l still in
    d.changed (omega arith))

-- ---- one word 256 times

alike : (b : List ℕ) (k v : ℕ) → ((i : ℕ) → i < 256 → word_in b k i ≡ v) → is_sound b k ≡ eqb v (0xffff - 255 * v % 65536)
unfolding is_sound check_word
alike b k v same = rw (sum_alike (word_in b k) v 255 (λ j l. same j (omega arith)), same 255 (omega arith))

pub sound : Sound
sound = record {
  sums = λ b k bytes. sums b k;
  sums-back = sums-back;
  one_word = one_word;
  zeros = λ b k. alike b k 0;
  ones = λ b k. alike b k 0xffff;
}
