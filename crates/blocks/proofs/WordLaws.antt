-- Words that are read back after others are written, and how many blocks there are.
use Rattle.std.proofs.Common.{◌≡◌, ℕ, zero, suc, ◌+◌, ◌*◌, ◌/◌, ◌%◌, ◌<◌, ◌≤◌, true, false, ◌&&◌, eqb, leb, ◌≢◌, List, length, get_or, set, refl, ◌∙◌, ⊎_elim, eq-or-lt_of_le, arith, length-set, get_or-set_other, get_or-set_same, leb-true}
use Rattle.words.proofs.ChoiceLaws.{pick-cases, and_left, and_right}
use Rattle.blocks.specs.Blocks.{is_store, count, word_in, with_word, laid, version, check_word, is_sound}
use Rattle.blocks.proofs.SoundLaws.{sum_same}

-- ---- one word written

pub with-length : (b : List ℕ) (k i w : ℕ) → length (with_word b k i w) ≡ length b
unfolding with_word
with-length b k i w = simp length-set

pub word_same : (b : List ℕ) (k i w : ℕ) → 512 * k + 2 * i + 1 < length b → word_in (with_word b k i w) k i ≡ w
unfolding word_in with_word
word_same b k i w h =
    let p = 512 * k + 2 * i in
    let c = set b p (w / 256) in
    let long : p + 1 < length c = rw (length-set b p (w / 256)) h in
    let kept = get_or-set_other c (p + 1) p (w % 256) 0 (λ e. omega arith) in
    let high = get_or-set_same b p (w / 256) 0 (omega arith) in
    let low = get_or-set_same c (p + 1) (w % 256) 0 long in
    omega arith

byte-other : (b : List ℕ) (k i w at : ℕ) → at ≢ 512 * k + 2 * i → at ≢ 512 * k + 2 * i + 1
    → get_or (with_word b k i w) at 0 ≡ get_or b at 0
unfolding with_word
byte-other b k i w at m n =
    let p = 512 * k + 2 * i in
    get_or-set_other (set b p (w / 256)) (p + 1) at (w % 256) 0 n ∙ get_or-set_other b p at (w / 256) 0 m

pub word-other : (b : List ℕ) (k i w l j : ℕ) → 256 * l + j ≢ 256 * k + i → word_in (with_word b k i w) l j ≡ word_in b l j
unfolding word_in
word-other b k i w l j n =
    let q = 512 * l + 2 * j in
    let high = byte-other b k i w q (λ e. n (omega arith)) (λ e. n (omega arith)) in
    let low = byte-other b k i w (q + 1) (λ e. n (omega arith)) (λ e. n (omega arith)) in
    rw (high, low)

-- ---- a block written

pub laid-length : (f : ℕ → ℕ) (b : List ℕ) (k n : ℕ) → length (laid f b k n) ≡ length b
unfolding laid
laid-length f b k zero = refl
laid-length f b k (suc n) = with-length (laid f b k n) k n (f n) ∙ laid-length f b k n

pub laid_word : (f : ℕ → ℕ) (b : List ℕ) (k n i : ℕ) → n ≤ 256 → i < n → 512 * k + 512 ≤ length b
    → word_in (laid f b k n) k i ≡ f i
unfolding laid
laid_word f b k zero i m l long = elim l [ ]
laid_word f b k (suc n) i m l long =
    ⊎_elim
    (λ e. rw e (word_same (laid f b k n) k n (f n) (omega (arith, laid-length f b k n))))
    (λ before. word-other (laid f b k n) k n (f n) k i (λ e. omega arith) ∙ laid_word f b k n i (omega arith) before long)
    (eq-or-lt_of_le {n = i} {m = n} (omega arith))

pub laid-other : (f : ℕ → ℕ) (b : List ℕ) (k n l j : ℕ) → n ≤ 256 → j < 256 → l ≢ k → word_in (laid f b k n) l j ≡ word_in b l j
unfolding laid
laid-other f b k zero l j m h other = refl
laid-other f b k (suc n) l j m h other =
    word-other (laid f b k n) k n (f n) l j (λ e. other (omega arith)) ∙ laid-other f b k n l j (omega arith) h other

-- ---- how many blocks

pub count-length : (b c : List ℕ) → length c ≡ length b → count c ≡ count b
unfolding is_store count
count-length b c e = rw e

pub count-good : (b : List ℕ) (k : ℕ) → k < count b → 512 * k + 512 ≤ length b
unfolding count
count-good b k = pick-cases (λ (n : ℕ). k < n → 512 * k + 512 ≤ length b) (is_store b) (λ e l. omega arith) (λ e l. omega arith)

at-least-two : (b : List ℕ) → is_store b ≡ true → 2 ≤ length b / 512
unfolding is_store
at-least-two b e =
    let n = length b / 512 in
    leb-true 2 n (and_left (leb 2 n) (leb n 128) (and_right (eqb (length b % 512) 0) (leb 2 n && leb n 128) e))

pub count-store : (b : List ℕ) → is_store b ≡ true → 2 ≤ count b
unfolding count
count-store b e = rw e (at-least-two b e)

pub no_store : (b : List ℕ) → is_store b ≡ false → count b ≡ 0
unfolding count
no_store b e = rw e

-- ---- the same words

pub sound-same : (b : List ℕ) (k : ℕ) (c : List ℕ) (l : ℕ) → ((i : ℕ) → i < 256 → word_in b k i ≡ word_in c l i)
    → is_sound b k ≡ is_sound c l
unfolding is_sound check_word
sound-same b k c l same = rw (sum_same (word_in b k) (word_in c l) 255 (λ j h. same j (omega arith)), same 255 (omega arith))

pub version-same : (b : List ℕ) (k : ℕ) (c : List ℕ) (l : ℕ) → ((i : ℕ) → i < 256 → word_in b k i ≡ word_in c l i)
    → version b k ≡ version c l
unfolding version
version-same b k c l same = rw (same 1 (omega arith), same 2 (omega arith))
