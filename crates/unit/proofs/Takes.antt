-- When a call is taken: `takes`.
use Prim.Native.Nat.{ℕ, zero, suc, ◌+◌, ◌-◌, ◌*◌, ◌/◌, ◌%◌, ◌≤◌, ◌<◌}
use native.Mathlib.Omega.{arith}
use native.Mathlib.Nat.{eq-or-lt_of_le}
use mathlib.Core.Bool.{Bool, true, false, not, ◌&&◌, ◌||◌}
use mathlib.Core.Path.{◌≡◌, refl, ap, sym, subst, ◌∙◌}
use mathlib.Core.Logic.{◌≢◌, ◌⊎◌, ⊎_elim}
use mathlib.Core.List.{List}
use lib.Dec.{eqb, leb}
use lib.ListN.{get_or, length}
use borrow.Author.Tests.{le-leb, eq-eqb, ne_eqb, eqb-true, eqb-false, leb-true}
use Rattle.words.specs.Choice.{pick, ask}
use Rattle.words.specs.declared.Timer.{Timer}
use Rattle.words.specs.Field.{field}
use Rattle.words.proofs.ChoiceLaws.{not-both, fails, and_left, and_right}
use Rattle.words.proofs.ClockLaws.{same-timer}
use Rattle.words.proofs.FieldLaws.{field_lt}
use Rattle.unit.specs.declared.State.{State}
use Rattle.unit.specs.declared.Deed.{Deed}
use Rattle.unit.specs.declared.Deed.TheVariants.{Register, Keep}
use Rattle.unit.specs.declared.Place.TheVariants.{AtRegister, AtWord}
use Rattle.unit.specs.declared.Answered.{Answered}
use Rattle.unit.specs.OneTick.{after_ticks}
use Rattle.unit.specs.TheUnit.{all, each, cisr, cfsr_of, hsrr_of, reg, function, request, channel, word, top, last, size, exists, stepping, is_bound}
use Rattle.unit.specs.Gate.{place, is_free, is_stepper, span_good, is_ready, group_ready, target_good, advance_good, requested, Asked, Yes, No, ask_initialise, ask_step, ask_channel, and_then, ask_channels, verdict_of, keeps_or_free, ask_register, ask_word, ask_place, requested_one, done}
use Rattle.unit.specs.Calls.{answered_by, write_of, is_taken, advance_of}
use Rattle.unit.specs.Readings.{register_address, word_address, Listed, Exists}
use Rattle.unit.specs.Takes.{Free, Stepper, MayInitialise, MayStep, MayRepeat, AsksOne, Together, request_address, StepNumbers, InitialiseNumbers, Takes}
use Rattle.unit.proofs.Tests.{and_both, all_yes, or_right}
use Rattle.unit.proofs.Reset.{Sized}
use Rattle.unit.proofs.Requests.{going, request-write, pends}
use Rattle.unit.proofs.Together.{above_same, initialise-after, step_after, group-bound}
use Rattle.unit.proofs.Readings.{register-place, word-place, outside-place, exists-yes, exists-not, write-at}
use Rattle.unit.proofs.Questions.{all-all, is_yes, answer_of, yes-asks, or-second, free-is, is_free_lem, stepper-is, is-stepper, is-still, initialise-asks, is-initialise, step-asks, is-repeat, is-step}
use Rattle.std.specs.Prelude.{Err, Ok}
use Rattle.unit.specs.Refusals.{Answer}
use Rattle.unit.specs.declared.Refusal.TheVariants.{GroupNotReady, NoSuchAddress, NotFree, OtherFunction, TargetTooFar, TooManyTicks}
use Rattle.unit.specs.declared.Refusal.{Refusal}

-- ---- question 10

advance-asks : (n : ℕ) (lent : List ℕ) → advance_good n lent ≡ true → (n ≤ 4096) × (n ≤ length lent)
unfolding advance_good
advance-asks n lent e = (leb-true n 4096 (and_left (leb n 4096) _ e), leb-true n (length lent) (and_right (leb n 4096) _ e))

advance-taken : (s : State) (n : ℕ) (lent : List ℕ) → is_taken (advance_of s n lent).answer ≡ advance_good n lent
unfolding advance_of is_taken
advance-taken s n lent = by (advance_good n lent)
  where
    by : (b : Bool) → is_taken (pick {A = Answered} b record { answer = Ok tt; state = after_ticks n s } record { answer = Err TooManyTicks; state = s }).answer ≡ b
    by true = refl
    by false = refl

advance-good : (n : ℕ) (lent : List ℕ) → n ≤ 4096 → n ≤ length lent → advance_good n lent ≡ true
unfolding advance_good
advance-good n lent a b = and_both (le-leb n 4096 a) (le-leb n (length lent) b)

-- ---- a word that asks one channel

verdict-answer : (k : Asked) (d : Deed) (s : State) → (answered_by (verdict_of k d) s).answer ≡ answer_of k
unfolding answer_of verdict_of answered_by
verdict-answer (Yes w) d s = refl
verdict-answer (No n) d s = refl

answer-taken : (k : Asked) → is_taken (answer_of k) ≡ is_yes k
unfolding answer_of is_taken is_yes
answer-taken (Yes w) = refl
answer-taken (No n) = refl

asked-none : (r j : ℕ) (k : Asked) → r < 2 → and_then k (ask_channel r j) ≡ k
unfolding and_then ask_channel
asked-none r j (Yes w) h = rw (ne_eqb r 2 (λ e. omega arith), ne_eqb r 3 (λ e. omega arith))
asked-none r j (No n) h = refl

module _ (r c v : ℕ) (x : AsksOne r c v) (s : State) where
  asked-before : (n a : ℕ) → a % 8 ≡ 0 → n ≤ 8 → a ≤ c → a + n ≤ c → c < a + 8 → ask_channels n a v s ≡ Yes s
  unfolding ask_channels
  asked-before zero a z m h l u = refl
  asked-before (suc n) a z m h l u =
      asked-none (field 2 v (2 * ((a + n) % 8))) (a + n) (ask_channels n a v s) (x.others ((a + n) % 8) (omega arith) (λ e. omega arith)) ∙ asked-before n a z (omega arith) h (omega arith) u

  asked-own : (j : ℕ) → c ≡ j → and_then (Yes s) (ask_channel (field 2 v (2 * (j % 8))) j) ≡ ask_channel r c s
  unfolding and_then
  asked-own j e = subst (λ y. ask_channel (field 2 v (2 * (y % 8))) y s ≡ ask_channel r c s) e (ap (λ q. ask_channel q c s) x.own)

  asked-one : (n a : ℕ) → a % 8 ≡ 0 → n ≤ 8 → a ≤ c → c < a + n → ask_channels n a v s ≡ ask_channel r c s
  unfolding ask_channels
  asked-one zero a z m h l = absurd (omega arith)
  asked-one (suc n) a z m h l =
      let k : c ≤ a + n = omega arith in
      ⊎_elim
      (λ e. ap (λ w. and_then w (ask_channel (field 2 v (2 * ((a + n) % 8))) (a + n))) (asked-before n a z (omega arith) h (omega arith) (omega arith)) ∙ asked-own (a + n) e)
      (λ e. asked-none (field 2 v (2 * ((a + n) % 8))) (a + n) (ask_channels n a v s) (x.others ((a + n) % 8) (omega arith) (λ q. omega arith)) ∙ asked-one n a z (omega arith) h e)
      (eq-or-lt_of_le k)

  -- the write of such a word is answered as the channel's own questions are
  request-answer : (write_of s (request_address c) v).answer ≡ answer_of (ask_channel r c s)
  request-answer =
      ap (λ (k : Answered). k.answer) (request-write s c v x.small)
      ∙ verdict-answer (ask_channels 8 (8 * (c / 8)) v s) _ s
      ∙ ap answer_of (asked-one 8 (8 * (c / 8)) (omega arith) (omega arith) (omega (arith, x.small)) (omega (arith, x.small)))

  request-taken : is_taken (write_of s (request_address c) v).answer ≡ is_yes (ask_channel r c s)
  request-taken = ap is_taken request-answer ∙ answer-taken (ask_channel r c s)

-- ---- a word that asks several channels

is-asked : (r c : ℕ) (s : State) → ((k : ℕ) → get_or s.words k 0 ≤ 0xffff) → (r ≡ 2 → MayInitialise c s) → (r ≡ 3 → MayStep c s ⊎ MayRepeat c s) → ask_channel r c s ≡ Yes (requested s c r)
unfolding ask_channel requested
is-asked r c s w f g = by (eqb r 2) refl (eqb r 3) refl
  where
    by : (x : Bool) → eqb r 2 ≡ x → (y : Bool) → eqb r 3 ≡ y → ask_channel r c s ≡ Yes (requested s c r)
    by true x y d = let e : r ≡ 2 = eqb-true r 2 x in subst (λ k. ask_channel k c s ≡ Yes (requested s c k)) (sym e) (is-initialise c s (f e))
    by false x true d = let e : r ≡ 3 = eqb-true r 3 d in subst (λ k. ask_channel k c s ≡ Yes (requested s c k)) (sym e) (⊎_elim (is-step c s w) (is-repeat c s) (g e))
    by false x false d = rw (x, d) refl

requests-answer : (s : State) (i v : ℕ) → 7 ≤ i → i ≤ 8 → (write_of s (register_address i) v).answer ≡ answer_of (ask_channels 8 (8 * (8 - i)) v s)
requests-answer s i v a b =
    let e : register_address i ≡ request_address (8 * (8 - i)) = omega arith in
    let q : 8 * (8 * (8 - i) / 8) ≡ 8 * (8 - i) = omega arith in
    ap (λ k. (write_of s k v).answer) e
    ∙ ap (λ (k : Answered). k.answer) (request-write s (8 * (8 - i)) v (omega arith))
    ∙ verdict-answer (ask_channels 8 (8 * (8 * (8 - i) / 8)) v s) _ s
    ∙ ap (λ k. answer_of (ask_channels 8 k v s)) q

module _ (i v m : ℕ) (s : State) (z : Sized s) (words : (k : ℕ) → get_or s.words k 0 ≤ 0xffff) (a : 7 ≤ i) (b : i ≤ 8) (x : Together i v m s) where
  asked-together : (n : ℕ) → n ≤ 8 → 8 * (8 - i) + n ≤ m → ask_channels n (8 * (8 - i)) v s ≡ Yes (each n (8 * (8 - i)) (requested_one v) s)
  unfolding ask_channels each requested_one and_then
  asked-together zero l h = refl
  asked-together (suc n) l h =
      let t : State = each n (8 * (8 - i)) (requested_one v) s in
      let e : t.words ≡ s.words = (above_same i v n s z a b (omega arith) (8 * (8 - i) + n) (omega arith) (omega arith)).words in
      ap (λ k. and_then k (ask_channel (field 2 v (2 * ((8 * (8 - i) + n) % 8))) (8 * (8 - i) + n))) (asked-together n (omega arith) (omega arith))
      ∙ is-asked _ (8 * (8 - i) + n) t (subst (λ y. (k : ℕ) → get_or y k 0 ≤ 0xffff) (sym e) words)
      (initialise-after i v n s z a b (omega arith) m x (omega arith) (omega arith)) (step_after i v n s z a b (omega arith) m x (omega arith) (omega arith))

  -- the next one, in the group of a lower one that is set going
  module _ (c : ℕ) (q : c / 8 ≡ 8 - i) (e : field 2 v (2 * (c % 8)) ≡ 3) (y : MayStep c s) where
    asked-within : (n : ℕ) → n < 8 → c < 8 * (8 - i) + n → 8 * (8 - i) + n ≤ field 4 (word s c 5) 0 → 2 ≤ field 2 v (2 * ((8 * (8 - i) + n) % 8))
        → ask_channel (field 2 v (2 * ((8 * (8 - i) + n) % 8))) (8 * (8 - i) + n) (each n (8 * (8 - i)) (requested_one v) s) ≡ No NotFree
    unfolding ask_channel ask_initialise ask_step ask is_free
    asked-within n l k h g = by (eqb (field 2 v (2 * (j % 8))) 2) refl
      where
        j : ℕ
        j = 8 * (8 - i) + n

        t : State
        t = each n (8 * (8 - i)) (requested_one v) s

        reached : is_bound t j ≡ true
        reached = group-bound i v n s z a b (omega arith) c j q k e (omega arith) (omega arith) h

        still : stepping t j ≡ false
        still = going j s t (above_same i v n s z a b (omega arith) j (omega arith) (omega arith)).own ∙ is-still j s (y.group j (omega arith) h).free.unbound

        by : (d : Bool) → eqb (field 2 v (2 * (j % 8))) 2 ≡ d → ask_channel (field 2 v (2 * (j % 8))) j t ≡ No NotFree
        by true d = rw (d, reached) refl
        by false d =
            let w : field 2 v (2 * (j % 8)) ≢ 2 = eqb-false _ 2 d in
            rw (d, eq-eqb (field 2 v (2 * (j % 8))) 3 (omega (arith, field_lt 2 v (2 * (j % 8)))), still, reached) refl

    refused-within : (n : ℕ) → n ≤ 8 → c < m → m ≤ field 4 (word s c 5) 0 → m < 8 * (8 - i) + n → 2 ≤ field 2 v (2 * (m % 8)) → ask_channels n (8 * (8 - i)) v s ≡ No NotFree
    unfolding ask_channels and_then
    refused-within zero l k h w g = absurd (omega arith)
    refused-within (suc n) l k h w g =
        let next : Asked → Asked = λ o. and_then o (ask_channel (field 2 v (2 * ((8 * (8 - i) + n) % 8))) (8 * (8 - i) + n)) in
        let d : m ≤ 8 * (8 - i) + n = omega arith in
        ⊎_elim (λ p. ap next (asked-together n (omega arith) (omega arith)) ∙ asked-within n (omega arith) (omega arith) (omega arith) (subst (λ j. 2 ≤ field 2 v (2 * (j % 8))) p g))
        (λ p. ap next (refused-within n (omega arith) k h p g)) (eq-or-lt_of_le d)

-- ---- the other writes

-- the answer where one question is put, and n says that it said no
unfoldable by_question : Bool → Refusal → Answer
by_question true n = Ok tt
by_question false n = Err n

one-question : (q : Bool) (n : Refusal) (d : Deed) (s : State) → (answered_by (ask q (Err n) (Ok d)) s).answer ≡ by_question q n
unfolding ask answered_by by_question
one-question true n d s = refl
one-question false n d s = refl

by-taken : (q : Bool) (n : Refusal) (a : Answer) → a ≡ by_question q n → is_taken a ≡ q
unfolding by_question is_taken
by-taken true n a e = rw e refl
by-taken false n a e = rw e refl

by-refused : (q : Bool) (n : Refusal) (a : Answer) → a ≡ by_question q n → (q ≡ true → ⊥) → a ≡ Err n
unfolding by_question
by-refused q n a e f = e ∙ rw (fails q f) refl

again-asks : (c : ℕ) (s : State) → stepping s c ≡ true → request s c ≡ 0 → is_yes (ask_step s c) ≡ is_stepper s c
unfolding ask_step
again-asks c s g e = rw (g, eq-eqb (request s c) 0 e) (by (is_stepper s c))
  where
    by : (q : Bool) → is_yes (ask q (No OtherFunction) (Yes (requested s c 3))) ≡ q
    by q = yes-asks q (requested s c 3)

target-answer : (s : State) (c v : ℕ) → c < 16 → stepping s c ≡ true → (write_of s (word_address c 3) v).answer ≡ by_question (target_good s c v) TargetTooFar
unfolding ask_place ask_word exists
target-answer s c v h g =
    rw (write-at s (word_address c 3) v (AtWord c 3) (word-place c 3 h (omega arith)), or_right (leb 14 c) true refl, g) (one-question (target_good s c v) _ _ s)

target-asks : (s : State) (c v : ℕ) → target_good s c v ≡ true → field 4 (word s c 5) 8 < 16 → v + field 4 (word s c 5) 8 ≤ 0xffff
unfolding target_good top
target-asks s c v e l = omega (arith, leb-true v (0xffff - field 4 (word s c 5) 8) e)

target-good : (s : State) (c v : ℕ) → v + field 4 (word s c 5) 8 ≤ 0xffff → target_good s c v ≡ true
unfolding target_good top
target-good s c v l = le-leb v (0xffff - field 4 (word s c 5) 8) (omega arith)

word-answer : (s : State) (c i v : ℕ) → c < 16 → i < 8 → Exists c i → (i ≡ 3 → stepping s c ≡ false) → (write_of s (word_address c i) v).answer ≡ by_question (is_free s c) NotFree
unfolding ask_place ask_word
word-answer s c i v h l e n =
    rw (write-at s (word_address c i) v (AtWord c i) (word-place c i h l), exists-yes c i e, other) (one-question (is_free s c) _ _ s)
  where
    other : (eqb i 3 && stepping s c) ≡ false
    other = fails (eqb i 3 && stepping s c) (λ t. not-both (and_right (eqb i 3) _ t) (n (eqb-true i 3 (and_left (eqb i 3) _ t))))

functions-answer : (s : State) (i v : ℕ) → 1 ≤ i → i ≤ 4 → (write_of s (register_address i) v).answer ≡ by_question (all 4 (4 * (4 - i)) (keeps_or_free s v)) NotFree
unfolding ask_place ask_register
functions-answer s i v a b =
    rw (write-at s (register_address i) v (AtRegister i) (register-place i (omega arith)), ne_eqb i 11 (λ q. omega arith), le-leb 1 i a, le-leb i 4 b)
    (one-question (all 4 (4 * (4 - i)) (keeps_or_free s v)) _ _ s)

own-function : (s : State) (i j : ℕ) → 1 ≤ i → i ≤ 4 → j / 4 ≡ 4 - i → function s j ≡ field 4 (reg s i) (4 * (j % 4))
unfolding function cfsr_of
own-function s i j a b e = let q : 1 + (3 - j / 4) ≡ i = omega arith in ap (λ k. field 4 (reg s k) (4 * (j % 4))) q

functions-ask : (s : State) (i v : ℕ) → 1 ≤ i → i ≤ 4 → all 4 (4 * (4 - i)) (keeps_or_free s v) ≡ true
    → (j : ℕ) → j / 4 ≡ 4 - i → field 4 v (4 * (j % 4)) ≢ field 4 (reg s i) (4 * (j % 4)) → Free j s
unfolding keeps_or_free
functions-ask s i v a b e j q n =
    let k : keeps_or_free s v j ≡ true = all_yes (keeps_or_free s v) j 4 (4 * (4 - i)) (omega arith) (omega arith) e in
    free-is j s (or-second (eqb (field 4 v (4 * (j % 4))) (function s j)) (is_free s j) k (ne_eqb _ (function s j) (λ z. n (z ∙ own-function s i j a b q))))

functions-good : (s : State) (i v : ℕ) → 1 ≤ i → i ≤ 4 → ((j : ℕ) → j / 4 ≡ 4 - i → field 4 v (4 * (j % 4)) ≢ field 4 (reg s i) (4 * (j % 4)) → Free j s)
    → all 4 (4 * (4 - i)) (keeps_or_free s v) ≡ true
unfolding keeps_or_free
functions-good s i v a b f = all-all (keeps_or_free s v) 4 (4 * (4 - i)) (λ j x y. by j (omega arith) (eqb (field 4 v (4 * (j % 4))) (function s j)) refl)
  where
    by : (j : ℕ) → j / 4 ≡ 4 - i → (t : Bool) → eqb (field 4 v (4 * (j % 4))) (function s j) ≡ t → (t || is_free s j) ≡ true
    by j q true t = refl
    by j q false t = is_free_lem j s (f j q (λ z. eqb-false _ _ t (z ∙ sym (own-function s i j a b q))))

-- ---- the numbers

writes-outside : (s : State) (a v : ℕ) → (Listed a → ⊥) → write_of s a v ≡ record { answer = Err NoSuchAddress; state = s }
unfolding ask_place answered_by
writes-outside s a v n =
    rw (write-at s a v (place a) refl)
    (outside-place (λ p. answered_by (ask_place s p v) s ≡ record { answer = Err NoSuchAddress; state = s }) a n (λ r. refl) refl)

-- a register of which only question 1 is asked
plain-taken : (s : State) (i v : ℕ) → i < 12 → (leb 1 i && leb i 4) ≡ false → (leb 7 i && leb i 8) ≡ false → is_taken (write_of s (register_address i) v).answer ≡ true
unfolding ask_place ask_register answered_by is_taken
plain-taken s i v h a b =
    rw (write-at s (register_address i) v (AtRegister i) (register-place i h), a, b) (by (eqb i cisr))
  where
    by : (t : Bool) → is_taken (answered_by (pick t (Ok (Keep v)) (Ok (Register i v))) s).answer ≡ true
    by true = refl
    by false = refl

others-taken : (s : State) (i v : ℕ) → ((i ≡ 0) ⊎ ((5 ≤ i) × (i ≤ 6))) ⊎ ((9 ≤ i) × (i ≤ 11)) → is_taken (write_of s (register_address i) v).answer ≡ true
others-taken s i v =
    ⊎_elim (⊎_elim (λ e. taken (omega arith) (λ a b. omega arith) (λ a b. omega arith)) (λ e. taken (omega arith) (λ a b. omega arith) (λ a b. omega arith)))
    (λ e. taken (omega arith) (λ a b. omega arith) (λ a b. omega arith))
  where
    none : (m n : ℕ) → (m ≤ i → i ≤ n → ⊥) → (leb m i && leb i n) ≡ false
    none m n f = fails (leb m i && leb i n) (λ t. f (leb-true m i (and_left (leb m i) _ t)) (leb-true i n (and_right (leb m i) _ t)))

    taken : i < 12 → (1 ≤ i → i ≤ 4 → ⊥) → (7 ≤ i → i ≤ 8 → ⊥) → is_taken (write_of s (register_address i) v).answer ≡ true
    taken h a b = plain-taken s i v h (none 1 4 a) (none 7 8 b)

missing-written : (s : State) (c i v : ℕ) → c < 14 → 6 ≤ i → i < 8 → write_of s (word_address c i) v ≡ record { answer = Ok tt; state = s }
unfolding ask_place ask_word answered_by done
missing-written s c i v h m l = rw (write-at s (word_address c i) v (AtWord c i) (word-place c i (omega arith) l), exists-not c i h m) refl

busy-number : (c : ℕ) (s : State) → request s c ≢ 0 → answer_of (ask_step s c) ≡ Err NotFree
unfolding ask_step is_free ask answer_of
busy-number c s n = rw (ne_eqb (request s c) 0 n, and-false (stepping s c), and-false (not (is_bound s c))) refl
  where
    and-false : (b : Bool) → (b && false) ≡ false
    and-false true = refl
    and-false false = refl

again-number : (c : ℕ) (s : State) → stepping s c ≡ true → request s c ≡ 0 → (Stepper c s → ⊥) → answer_of (ask_step s c) ≡ Err OtherFunction
unfolding ask_step ask answer_of
again-number c s g e n = rw (g, eq-eqb (request s c) 0 e, fails (is_stepper s c) (λ t. n (stepper-is c s t))) refl

step-numbers : (c : ℕ) (s : State) → stepping s c ≡ false → StepNumbers c s (answer_of (ask_step s c))
unfolding ask_step ask answer_of
step-numbers c s g =
    record {
      two = λ a. rw (g, a) refl;
      three = λ a b. rw (g, a, b) refl;
      five = λ a b d. rw (g, a, b, d) refl;
      six = λ a b d e. rw (g, a, b, d, e) refl;
      seven = λ a b d e h. rw (g, a, b, d, e, h) refl;
      eight = λ a b d e h k. rw (g, a, b, d, e, h, k) refl;
      fourteen = λ a b d e h k l. rw (g, a, b, d, e, h, k, l) refl;
      nine = λ a b d e h k l m. rw (g, a, b, d, e, h, k, l, m) refl;
    }

not_alike : (c j : ℕ) (s : State) → c ≤ j → j ≤ field 4 (word s c 5) 0 → (channel s j).kind ≢ (channel s c).kind → group_ready s c ≡ false
unfolding group_ready is_ready size last
not_alike c j s a b n =
    let k : Timer = (channel s c).kind in
    fails (group_ready s c) (λ e. n (same-timer (channel s j).kind k
    (and_right (is_stepper s j && ((channel s j).initialised && is_free s j)) _ (all_yes (is_ready s k) j (suc (field 4 (word s c 5) 0) - c) c a (omega arith) e))))

odd-kind : (c j : ℕ) (s : State) → Free c s → Stepper c s → span_good s c ≡ true → c ≤ j → j ≤ field 4 (word s c 5) 0
    → (channel s j).kind ≢ (channel s c).kind → answer_of (ask_step s c) ≡ Err GroupNotReady
odd-kind c j s f t e a b n = (step-numbers c s (is-still c s f.unbound)).six (is_free_lem c s f) (is-stepper c s t) e (not_alike c j s a b n)

initialise-numbers : (c : ℕ) (s : State) → InitialiseNumbers c s (answer_of (ask_initialise s c))
unfolding ask_initialise ask answer_of
initialise-numbers c s = record { two = λ a. rw a refl; three = λ a b. rw (a, b) refl; four = λ a b d. rw (a, b, d) refl }

advance-number : (s : State) (n : ℕ) (lent : List ℕ) → (4096 < n) ⊎ (length lent < n) → (advance_of s n lent).answer ≡ Err TooManyTicks
unfolding advance_of
advance-number s n lent o = rw (fails (advance_good n lent) (λ e. let k : (n ≤ 4096) × (n ≤ length lent) = advance-asks n lent e in ⊎_elim (λ l. omega arith) (λ l. omega arith) o)) refl

-- ---- the calls

pub takes : Takes
unfolding ask_channel request hsrr_of is_yes is_taken answer_of
takes =
    record {
      advance = λ s n lent t. advance-asks n lent (sym (advance-taken s n lent) ∙ t);
      advances = λ s n lent a b. advance-taken s n lent ∙ advance-good n lent a b;
      initialise = λ s c v x t. initialise-asks c s (sym (request-taken 2 c v x s) ∙ t);
      initialises = λ s c v x m. request-taken 2 c v x s ∙ ap is_yes (is-initialise c s m);
      step = λ s c v x w u t. step-asks c s w u (sym (request-taken 3 c v x s) ∙ t);
      steps = λ s c v x w m. request-taken 3 c v x s ∙ ap is_yes (is-step c s w m);
      again = λ s c v x g e t. stepper-is c s (sym (again-asks c s g e) ∙ sym (request-taken 3 c v x s) ∙ t);
      agains = λ s c v x g e q. request-taken 3 c v x s ∙ again-asks c s g e ∙ is-stepper c s q;
      requests = pends;
      together = λ s i v w d a b x. ap is_taken (requests-answer s i v a b ∙ ap answer_of (asked-together i v 16 s w d a b x 8 (omega arith) (omega arith)));
      within = λ s i v c j w d a b x q e y p g k h. requests-answer s i v a b ∙ ap answer_of (refused-within i v j s w d a b x c q e y 8 (omega arith) k h (omega arith) g);
      target = λ s c v h g t. target-asks s c v (sym (by-taken _ _ _ (target-answer s c v h g)) ∙ t) (field_lt 4 (word s c 5) 8);
      targets = λ s c v h g l. by-taken _ _ _ (target-answer s c v h g) ∙ target-good s c v l;
      word = λ s c i v h l e n t. free-is c s (sym (by-taken _ _ _ (word-answer s c i v h l e n)) ∙ t);
      words = λ s c i v h l e n f. by-taken _ _ _ (word-answer s c i v h l e n) ∙ is_free_lem c s f;
      functions = λ s i v a b t. functions-ask s i v a b (sym (by-taken _ _ _ (functions-answer s i v a b)) ∙ t);
      functions-all = λ s i v a b f. by-taken _ _ _ (functions-answer s i v a b) ∙ functions-good s i v a b f;
      outside = λ s a v n. writes-outside s a v n;
      word_number = λ s c i v h l e n f. by-refused _ _ _ (word-answer s c i v h l e n) (λ t. f (free-is c s t));
      target-number = λ s c v h g l. by-refused _ _ _ (target-answer s c v h g) (λ t. let k = target-asks s c v t (field_lt 4 (word s c 5) 8) in omega arith);
      functions-number = λ s i v j a b q n f. by-refused _ _ _ (functions-answer s i v a b) (λ t. f (functions-ask s i v a b t j q n));
      others = others-taken;
      missing = missing-written;
      busy = λ s c v x n. request-answer 3 c v x s ∙ busy-number c s n;
      again-number = λ s c v x g e n. request-answer 3 c v x s ∙ again-number c s g e n;
      step-numbers = λ s c v x g. subst (StepNumbers c s) (sym (request-answer 3 c v x s)) (step-numbers c s g);
      odd-kind = λ s c v j x f t e a b n. request-answer 3 c v x s ∙ odd-kind c j s f t e a b n;
      initialise-numbers = λ s c v x. subst (InitialiseNumbers c s) (sym (request-answer 2 c v x s)) (initialise-numbers c s);
      advance-number = advance-number;
    }
