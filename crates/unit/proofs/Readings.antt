-- What a read gives: `readings`.
use Prim.Native.Nat.{ℕ, zero, suc, ◌+◌, ◌-◌, ◌*◌, ◌/◌, ◌%◌, ◌^◌, ◌≤◌, ◌<◌}
use native.Mathlib.Omega.{arith}
use native.Mathlib.Nat.{zero-div}
use mathlib.Core.Bool.{Bool, true, false, ◌&&◌}
use mathlib.Core.Path.{◌≡◌, refl, ap, sym, subst, ◌∙◌}
use mathlib.Core.Logic.{◌≢◌, inl, inr, ⊎_elim}
use lib.Bits.{bit_and, and_le_l, and_zero_l, and_zero_r}
use lib.Dec.{eqb, leb, ltb}
use lib.ListN.{get_or, set, length}
use lib.Seq.{get_or-set_same}
use borrow.Author.Tests.{le-leb, lt-ltb, eq-eqb, ne_eqb, eqb-true, leb-true}
use Rattle.words.specs.Choice.{pick, ask}
use Rattle.words.specs.Field.{field}
use Rattle.words.proofs.ChoiceLaws.{pick-cases, not-both, fails, tests, and_left, and_right}
use Rattle.words.proofs.FieldLaws.{field_lt, bit-and, words-equal}
use Rattle.unit.specs.declared.State.{State}
use Rattle.unit.specs.declared.Place.{Place}
use Rattle.unit.specs.declared.Place.TheVariants.{AtRegister, AtWord, AtLate, Nowhere}
use Rattle.unit.specs.TheUnit.{none, channel_at, stands_for, with_reg, with_words, with_word, with_initialised, with_channel, channel, cisr, reg, word, exists, interrupt_line, any, all, stepping}
use Rattle.unit.specs.Gate.{place, is_place, in_list, is_free, keeps_or_free, target_good, ask_register, ask_word, ask_place, stored, done}
use Rattle.unit.specs.Calls.{word_at, read_of, answered_by, write_of, is_taken}
use Rattle.unit.specs.Readings.{register_address, word_address, late_address, Listed, ReadOnly, Exists, BothBits, Readings}
use Rattle.unit.proofs.Places.{gate-place}
use Rattle.unit.proofs.Tests.{or_left, or_right, any-yes, any_some, Found}
use Rattle.std.specs.Prelude.{Err, Ok}
use Rattle.unit.specs.Refusals.{Verdict}
use Rattle.unit.specs.declared.Refusal.TheVariants.{NoSuchAddress}
use Rattle.unit.specs.declared.Refusal.{Refusal}

-- ---- addresses

pub register-place : (i : ℕ) → i < 12 → place (register_address i) ≡ AtRegister i
unfolding place
register-place i h =
    let e : (0xe0a + 2 * i) % 2 ≡ 0 = omega arith in
    let q : (0xe0a + 2 * i - 0xe0a) / 2 ≡ i = omega arith in
    rw (e, le-leb 0xe0a (0xe0a + 2 * i) (omega arith), le-leb (0xe0a + 2 * i) 0xe20 (omega arith), q)

pub word-place : (c i : ℕ) → c < 16 → i < 8 → place (word_address c i) ≡ AtWord c i
unfolding place
word-place c i h l =
    let a : ℕ = 0xf00 + (16 * c + 2 * i) in
    let e : (0xf00 + (16 * c + 2 * i)) % 2 ≡ 0 = omega arith in
    let q : (0xf00 + (16 * c + 2 * i) - 0xf00) / 16 ≡ c = omega arith in
    let r : (0xf00 + (16 * c + 2 * i) - 0xf00) % 16 / 2 ≡ i = omega arith in
    rw (e, fails (leb (0xf00 + (16 * c + 2 * i)) 0xe20) (λ t. omega (arith, tests)), fails (leb (0xf00 + (16 * c + 2 * i)) 0xe5e) (λ t. omega (arith, tests)), le-leb 0xe0a (0xf00 + (16 * c + 2 * i)) (omega arith), le-leb 0xe40 (0xf00 + (16 * c + 2 * i)) (omega arith), le-leb 0xf00 (0xf00 + (16 * c + 2 * i)) (omega arith), le-leb (0xf00 + (16 * c + 2 * i)) 0xffe (omega arith), q, r)

pub late-place : (c : ℕ) → c < 16 → place (late_address c) ≡ AtLate c
unfolding place
late-place c h =
    let e : (0xe40 + 2 * c) % 2 ≡ 0 = omega arith in
    let q : (0xe40 + 2 * c - 0xe40) / 2 ≡ c = omega arith in
    rw (e, fails (leb (0xe40 + 2 * c) 0xe20) (λ t. omega (arith, tests)), le-leb 0xe0a (0xe40 + 2 * c) (omega arith), le-leb 0xe40 (0xe40 + 2 * c) (omega arith), le-leb (0xe40 + 2 * c) 0xe5e (omega arith), q)

-- an even address from here to there
between : (a low high : ℕ) → (eqb (a % 2) 0 && (leb low a && leb a high)) ≡ true → (a % 2 ≡ 0) × (low ≤ a) × (a ≤ high)
between a low high t =
    let u : (leb low a && leb a high) ≡ true = and_right (eqb (a % 2) 0) _ t in
    (eqb-true (a % 2) 0 (and_left (eqb (a % 2) 0) _ t), leb-true low a (and_left (leb low a) _ u), leb-true a high (and_right (leb low a) _ u))

-- the place of an address that is not in document 01's list
pub outside-place : (P : Place → Type 0) (a : ℕ) → (Listed a → ⊥) → (ReadOnly a → P (AtLate ((a - 0xe40) / 2))) → P Nowhere → P (place a)
unfolding place
outside-place P a n late nowhere =
    pick-cases P (eqb (a % 2) 0 && (leb 0xe0a a && leb a 0xe20))
    (λ t. let b = between a 0xe0a 0xe20 t in absurd (n (b.0, inl (b.1, b.2))))
    (λ s. pick-cases P (eqb (a % 2) 0 && (leb 0xe40 a && leb a 0xe5e)) (λ t. late (between a 0xe40 0xe5e t))
    (λ r. pick-cases P (eqb (a % 2) 0 && (leb 0xf00 a && leb a 0xffe))
    (λ t. let b = between a 0xf00 0xffe t in absurd (n (b.0, inr (b.1, b.2))))
    (λ t. nowhere)))

-- ---- reads

read_at : (s : State) (a : ℕ) (p : Place) → place a ≡ p → read_of s a ≡ ask (is_place p) (Err NoSuchAddress) (Ok (word_at s p))
unfolding read_of in_list
read_at s a p e = ap (λ q. ask (is_place q) (Err NoSuchAddress) (Ok (word_at s q))) e

pub exists-yes : (c i : ℕ) → Exists c i → exists c i ≡ true
unfolding exists
exists-yes c i = ⊎_elim (λ h. or_left (leb 14 c) (ltb i 6) (le-leb 14 c h)) (λ h. or_right (leb 14 c) (ltb i 6) (lt-ltb i 6 h))

pub exists-not : (c i : ℕ) → c < 14 → 6 ≤ i → exists c i ≡ false
unfolding exists
exists-not c i h l = rw (fails (leb 14 c) (λ t. omega (arith, tests)), fails (ltb i 6) (λ t. omega (arith, tests)))

reads-register : (s : State) (i : ℕ) → i < 12 → read_of s (register_address i) ≡ Ok (get_or s.regs i 0)
unfolding is_place word_at reg ask
reads-register s i h = read_at s (register_address i) (AtRegister i) (register-place i h)

reads-missing : (s : State) (c i : ℕ) → c < 14 → 6 ≤ i → i < 8 → read_of s (word_address c i) ≡ Ok 0
unfolding is_place word_at word ask
reads-missing s c i h m l = read_at s (word_address c i) (AtWord c i) (word-place c i (omega arith) l) ∙ ap (λ b. Ok (pick b (get_or s.words (8 * c + i) 0) 0)) (exists-not c i h m)

reads_word : (s : State) (c i : ℕ) → c < 16 → i < 8 → Exists c i → read_of s (word_address c i) ≡ Ok (get_or s.words (8 * c + i) 0)
unfolding is_place word_at word ask
reads_word s c i h l e = read_at s (word_address c i) (AtWord c i) (word-place c i h l) ∙ ap (λ b. Ok (pick b (get_or s.words (8 * c + i) 0) 0)) (exists-yes c i e)

reads-late : (s : State) (c : ℕ) → c < 16 → read_of s (late_address c) ≡ Ok (get_or s.channels c none).late
unfolding is_place word_at channel channel_at stands_for ask
reads-late s c h = read_at s (late_address c) (AtLate c) (late-place c h)

reads-outside : (s : State) (a : ℕ) → (Listed a → ⊥) → (ReadOnly a → ⊥) → read_of s a ≡ Err NoSuchAddress
unfolding is_place word_at ask
reads-outside s a n r = read_at s a Nowhere (outside-place (λ p. p ≡ Nowhere) a n (λ x. absurd (r x)) refl)

-- ---- writes

pub write-at : (s : State) (a v : ℕ) (p : Place) → place a ≡ p → write_of s a v ≡ answered_by (ask_place s p v) s
unfolding write_of
write-at s a v p e = ap (λ k. answered_by k s) (gate-place s a v ∙ ap (λ q. ask_place s q v) e)

-- where a question is put and the write is taken, the deed is done
asked-done : (P : State → Type 0) (q : Bool) (n : Refusal) (s : State) (k : Verdict) → (is_taken (answered_by k s).answer ≡ true → P (answered_by k s).state)
    → is_taken (answered_by (ask q (Err n) k) s).answer ≡ true → P (answered_by (ask q (Err n) k) s).state
unfolding ask answered_by is_taken
asked-done P true n s k f t = f t
asked-done P false n s k f t = absurd (not-both t refl)

stored-reads : (s : State) (c i v : ℕ) → length s.words ≡ 128 → c < 16 → i < 8 → get_or (stored s (8 * c + i) v).words (8 * c + i) 0 ≡ v
unfolding stored with_word with_words with_initialised with_channel
stored-reads s c i v z h l =
    let q : 8 * ((8 * c + i) / 8) + (8 * c + i) % 8 ≡ 8 * c + i = omega arith in
    let e : get_or (set s.words (8 * ((8 * c + i) / 8) + (8 * c + i) % 8) v) (8 * c + i) 0 ≡ v =
    subst (λ k. get_or (set s.words k v) (8 * c + i) 0 ≡ v) (sym q) (get_or-set_same s.words (8 * c + i) v 0 (omega arith)) in
    pick-cases (λ (t : State). get_or t.words (8 * c + i) 0 ≡ v) (eqb ((8 * c + i) % 8) 0) (λ a. e) (λ a. e)

word-done : (s : State) (c i v : ℕ) → length s.words ≡ 128 → c < 16 → i < 8 → Exists c i
    → is_taken (answered_by (ask_word s c i v) s).answer ≡ true → get_or (answered_by (ask_word s c i v) s).state.words (8 * c + i) 0 ≡ v
unfolding ask_word answered_by done
word-done s c i v z h l e =
    rw (exists-yes c i e)
    (pick-cases (λ k. is_taken (answered_by k s).answer ≡ true → P (answered_by k s).state) (eqb i 3 && stepping s c)
    (λ a. asked-done P (target_good s c v) _ s _ (λ t. stored-reads s c i v z h l)) (λ a. asked-done P (is_free s c) _ s _ (λ t. stored-reads s c i v z h l)))
  where
    P : State → Type 0
    P t = get_or t.words (8 * c + i) 0 ≡ v

word-written : (s : State) (c i v : ℕ) → length s.words ≡ 128 → c < 16 → i < 8 → Exists c i
    → is_taken (write_of s (word_address c i) v).answer ≡ true → read_of (write_of s (word_address c i) v).state (word_address c i) ≡ Ok v
unfolding ask_place
word-written s c i v z h l e =
    rw (write-at s (word_address c i) v (AtWord c i) (word-place c i h l))
    (λ t. reads_word _ c i h l e ∙ ap Ok (word-done s c i v z h l e t))

register-done : (s : State) (i v : ℕ) → length s.regs ≡ 12 → i < 11 → i ≢ 7 → i ≢ 8
    → is_taken (answered_by (ask_register s i v) s).answer ≡ true → get_or (answered_by (ask_register s i v) s).state.regs i 0 ≡ v
unfolding ask_register answered_by done with_reg
register-done s i v z h n m =
    pick-cases Q (eqb i cisr) (λ a. absurd (omega (arith, tests)))
    (λ a. pick-cases Q (leb 1 i && leb i 4) (λ b. asked-done P (all 4 (4 * (4 - i)) (keeps_or_free s v)) _ s _ (λ t. same))
    (λ b. pick-cases Q (leb 7 i && leb i 8) (λ c. absurd (hsrr (leb-true 7 i (and_left (leb 7 i) _ c)) (leb-true i 8 (and_right (leb 7 i) _ c)))) (λ c t. same)))
  where
    P : State → Type 0
    P t = get_or t.regs i 0 ≡ v

    Q : Verdict → Type 0
    Q k = is_taken (answered_by k s).answer ≡ true → P (answered_by k s).state

    same : get_or (set s.regs i v) i 0 ≡ v
    same = get_or-set_same s.regs i v 0 (omega arith)

    hsrr : 7 ≤ i → i ≤ 8 → ⊥
    hsrr a b = n (omega (arith, m))

register-written : (s : State) (i v : ℕ) → length s.regs ≡ 12 → i < 11 → i ≢ 7 → i ≢ 8
    → is_taken (write_of s (register_address i) v).answer ≡ true → read_of (write_of s (register_address i) v).state (register_address i) ≡ Ok v
unfolding ask_place
register-written s i v z h n m =
    rw (write-at s (register_address i) v (AtRegister i) (register-place i (omega arith)))
    (λ t. reads-register _ i (omega arith) ∙ ap Ok (register-done s i v z h n m t))

keeps : (s : State) (v : ℕ) → length s.regs ≡ 12 → get_or (write_of s (register_address 11) v).state.regs 11 0 ≡ bit_and (get_or s.regs 11 0) v
unfolding ask_place ask_register answered_by done with_reg reg
keeps s v z =
    rw (write-at s (register_address 11) v (AtRegister 11) (register-place 11 (omega arith)))
    (get_or-set_same s.regs 11 (bit_and (get_or s.regs 11 0) v) 0 (omega arith))

bit-small : (w k : ℕ) → field 1 w k < 2
bit-small w k = field_lt 1 w k

one-and : (a b : ℕ) → a < 2 → b ≡ 1 → bit_and a b ≡ a
one-and a b h e = subst (λ x. bit_and a x ≡ a) (sym e) (by a h)
  where
    by : (a : ℕ) → a < 2 → bit_and a 1 ≡ a
    by zero h = refl
    by (suc zero) h = refl
    by (suc (suc a)) h = absurd (omega arith)

-- ---- the interrupt line

no-bit : (k : ℕ) → field 1 0 k ≡ 0
unfolding field
no-bit k = rw (zero-div (2 ^ k)) refl

-- bits of which not both are 1
not-both-bits : (a b : ℕ) → a < 2 → b < 2 → (eqb a 1 && eqb b 1) ≡ false → bit_and a b ≡ 0
not-both-bits zero b h l e = and_zero_l b
not-both-bits (suc a) zero h l e = and_zero_r (suc a)
not-both-bits (suc a) (suc b) h l e = absurd (not-both (rw (eq-eqb (suc a) 1 (omega arith), eq-eqb (suc b) 1 (omega arith)) refl) e)

line-why : (s : State) → get_or s.regs 0 0 ≤ 0xffff → interrupt_line s ≡ true → BothBits s
unfolding interrupt_line reg
line-why s h up = by (any 16 0 f) refl
  where
    f : ℕ → Bool
    f c = eqb (field 1 (get_or s.regs 0 0) c) 1 && eqb (field 1 (get_or s.regs 11 0) c) 1

    zeros : any 16 0 f ≡ false → (c : ℕ) → c < 16 → field 1 (bit_and (get_or s.regs 0 0) (get_or s.regs 11 0)) c ≡ field 1 0 c
    zeros e c l =
        bit-and (get_or s.regs 0 0) (get_or s.regs 11 0) c
        ∙ not-both-bits _ _ (bit-small (get_or s.regs 0 0) c) (bit-small (get_or s.regs 11 0) c) (fails (f c) (λ t. not-both (any-yes f c 16 0 (omega arith) (omega arith) t) e)) ∙ sym (no-bit c)

    by : (t : Bool) → any 16 0 f ≡ t → BothBits s
    by true t =
        let x : Found f 16 0 = any_some f 16 0 t in
        record {
          channel = x.place;
          small = omega (arith, x.below);
          enable = eqb-true _ 1 (and_left (eqb (field 1 (get_or s.regs 0 0) x.place) 1) _ x.yes);
          status = eqb-true _ 1 (and_right (eqb (field 1 (get_or s.regs 0 0) x.place) 1) _ x.yes);
        }
    by false t =
        let z : bit_and (get_or s.regs 0 0) (get_or s.regs 11 0) ≡ 0 =
        words-equal 16 _ 0 (omega (arith, and_le_l (get_or s.regs 0 0) (get_or s.regs 11 0))) (omega arith) (zeros t) in
        absurd (not-both up (rw (eq-eqb (bit_and (get_or s.regs 0 0) (get_or s.regs 11 0)) 0 z)))

line-up : (s : State) → BothBits s → interrupt_line s ≡ true
unfolding interrupt_line reg
line-up s x =
    let a : ℕ = get_or s.regs 0 0 in
    let b : ℕ = get_or s.regs 11 0 in
    let e : field 1 (bit_and a b) x.channel ≡ 1 = bit-and a b x.channel ∙ one-and _ _ (bit-small a x.channel) x.status ∙ x.enable in
    rw (ne_eqb (bit_and a b) 0 (λ z. let k : field 1 0 x.channel ≡ 1 = subst (λ w. field 1 w x.channel ≡ 1) z e in omega (arith, k, no-bit x.channel)))

pub readings : Readings
readings =
    record {
      register = reads-register;
      word = reads_word;
      missing = reads-missing;
      late = reads-late;
      outside = reads-outside;
      word-written = λ s c i v w. word-written s c i v w.words;
      register-written = λ s i v w. register-written s i v w.regs;
      cleared = λ s v k z e. ap (λ w. field 1 w k) (keeps s v z.regs) ∙ bit-and (get_or s.regs 11 0) v k ∙ ap (bit_and (field 1 (get_or s.regs 11 0) k)) e ∙ and_zero_r (field 1 (get_or s.regs 11 0) k);
      kept = λ s v k z e. ap (λ w. field 1 w k) (keeps s v z.regs) ∙ bit-and (get_or s.regs 11 0) v k ∙ one-and _ _ (bit-small (get_or s.regs 11 0) k) e;
      line-up = line-up;
      line-why = line-why;
    }
