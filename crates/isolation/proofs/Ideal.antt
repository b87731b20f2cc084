-- A row that feels all at once: each write is done and each move made as it is asked for. The settled words of the row in a run are its
-- words: `along-run`.
use Prim.Native.Nat.{ℕ, zero, suc, ◌+◌, ◌-◌, ◌*◌, ◌%◌, ◌≤◌, ◌<◌}
use native.Mathlib.Omega.{arith}
use mathlib.Core.Bool.{Bool, true, false, not, ◌&&◌}
use mathlib.Core.List.{List, [], ◌∷◌, ◌++◌}
use mathlib.Core.Path.{◌≡◌, refl, ap, sym, subst, ◌∙◌}
use mathlib.Core.Logic.{◌≢◌, ◌⊎◌, inl, inr, ⊎_elim}
use lib.Bits.{bit_and}
use lib.Dec.{eqb, leb}
use lib.ListN.{get_or}
use borrow.Author.Tests.{eqb-true, eqb-false, eq-eqb, ne_eqb, le-leb, leb-true}
use Rattle.words.specs.Choice.{pick}
use Rattle.words.specs.Field.{field}
use Rattle.words.proofs.ChoiceLaws.{pick-cases, not-both, and_left, and_right, fails}
use Rattle.motor.specs.Group.{bound}
use Rattle.motor.specs.Count.{Target}
use Rattle.unit.specs.declared.Latches.{Latches}
use Rattle.unit.specs.declared.Channel.{Channel}
use Rattle.unit.specs.declared.State.{State}
use Rattle.unit.specs.declared.Place.{Place}
use Rattle.unit.specs.declared.Place.TheVariants.{AtRegister, AtWord, AtLate, Nowhere}
use Rattle.unit.specs.TheUnit.{channel_at, cisr, reg, function, priority, with_reg, with_request, with_initialised, with_channel, with_binding, word, exists, channel, stepping, is_bound}
use Rattle.unit.specs.OneTick.{tick}
use Rattle.unit.specs.Gate.{place, gate, requested, Asked, Yes, No, ask_channel, ask_channels, ask_register, ask_word, ask_place, stored, done}
use Rattle.unit.specs.Calls.{is_taken, write_of, answered_by}
use Rattle.unit.proofs.Reset.{Sized}
use Rattle.unit.proofs.Access.{word_same, channel-same, channel-other}
use Rattle.unit.proofs.Places.{PlaceGood, place-good, gate-place}
use Rattle.unit.proofs.Tests.{and_no, or_left}
use Rattle.history.specs.Leaves.{WordLeaves}
use Rattle.history.specs.Moments.{Act, Ticks, Writes, Nothing, does, through, is_target_of, event_of}
use Rattle.history.proofs.Calls.{Words}
use Rattle.history.proofs.Fine.{Fine, fine-requested}
use Rattle.history.proofs.Held.{free-still}
use Rattle.history.proofs.Leaves.{word-leaves}
use Rattle.history.proofs.Walk.{IfYes, IfTaken, yes-map, yes-then, taken_yes, walk-channel, channel-asks, walk-register, walk-word}
use Rattle.history.proofs.Writes.{stored_at}
use Rattle.history.proofs.Every.{Good, good-write}
use Rattle.isolation.specs.Row.{Row, in_row, Felt, Passes, Word, Function, Priority, Request, gather, new_function, new_priority, new_request, felt_at, felt_of, felt}
use Rattle.isolation.specs.OneMove.{Untouched}
use Rattle.history.proofs.Always.{good-tick}
use Rattle.isolation.proofs.Settled.{rates_at, going, settled, at_rest, under-way, by_number, going-two, going-four, going-other, rates-again, settled-tick}
use Rattle.std.specs.Prelude.{Err, Ok}
use Rattle.unit.specs.Refusals.{Verdict}

-- ---- words by channel and number

abbrev pub Rest : Type 0
Rest = ℕ → ℕ → ℕ

unfoldable pub put : Rest → ℕ → ℕ → ℕ → Rest
put x c i v d k = pick (eqb d c && eqb k i) v (x d k)

put_same : (x : Rest) (c i v : ℕ) → put x c i v c i ≡ v
unfolding put
put_same x c i v = rw (eq-eqb c c refl, eq-eqb i i refl)

put_other : (x : Rest) (c i v d k : ℕ) → (d ≢ c) ⊎ (k ≢ i) → put x c i v d k ≡ x d k
unfolding put
put_other x c i v d k o =
    pick-cases (λ y. y ≡ x d k) (eqb d c && eqb k i)
    (λ t. absurd (⊎_elim (λ n. n (eqb-true d c (and_left (eqb d c) (eqb k i) t))) (λ n. n (eqb-true k i (and_right (eqb d c) (eqb k i) t))) o)) (λ t. refl)

-- what stands there, put there
put-stays : (x : Rest) (c i v : ℕ) → v ≡ x c i → (d k : ℕ) → put x c i v d k ≡ x d k
unfolding put
put-stays x c i v e d k =
    pick-cases (λ y. y ≡ x d k) (eqb d c && eqb k i)
    (λ t. e ∙ (λ n. x (sym (eqb-true d c (and_left (eqb d c) (eqb k i) t)) n) (sym (eqb-true k i (and_right (eqb d c) (eqb k i) t)) n))) (λ t. refl)

-- ---- what is felt, done at once

-- the motor of c goes where it is to go
unfoldable pub arrived_at : Rest → ℕ → Rest
arrived_at x c = put (put x c 4 (rates_at (x c 4) (x c 2) (x c 3))) c 2 (x c 3)

unfoldable pub rests : Felt → Rest → Rest
rests Passes x = x
rests (Word c i v) x = put x c i v
rests (Function c v) x = x
rests (Priority c v) x = x
rests (Request c v) x = pick (eqb v 3) (arrived_at x c) x

unfoldable pub rests_all : List Felt → Rest → Rest
rests_all [] x = x
rests_all (f ∷ fs) x = rests_all fs (rests f x)

rests-append : (xs ys : List Felt) (x : Rest) → rests_all (xs ++ ys) x ≡ rests_all ys (rests_all xs x)
unfolding rests_all
rests-append [] ys x = refl
rests-append (f ∷ xs) ys x = rests-append xs ys (rests f x)

quiet-gather : (n a : ℕ) (f : ℕ → List Felt) → ((j : ℕ) (x : Rest) → rests_all (f j) x ≡ x) → (x : Rest) → rests_all (gather n a f) x ≡ x
unfolding gather rests_all
quiet-gather zero a f h x = refl
quiet-gather (suc n) a f h x = rests-append (gather n a f) (f (a + n)) x ∙ h (a + n) _ ∙ quiet-gather n a f h x

quiet-function : (r : Row) (s : State) (v j : ℕ) (x : Rest) → rests_all (new_function r s v j) x ≡ x
unfolding new_function rests_all rests
quiet-function r s v j x = pick-cases (λ (fs : List Felt). rests_all fs x ≡ x) (in_row r j && not (eqb (field 4 v (4 * (j % 4))) (function s j))) (λ t. refl) (λ t. refl)

quiet-priority : (r : Row) (s : State) (v j : ℕ) (x : Rest) → rests_all (new_priority r s v j) x ≡ x
unfolding new_priority rests_all rests
quiet-priority r s v j x = pick-cases (λ (fs : List Felt). rests_all fs x ≡ x) (in_row r j && not (eqb (field 2 v (2 * (j % 8))) (priority s j))) (λ t. refl) (λ t. refl)

-- ---- the settled words of the row

unfoldable pub Settles : Row → State → Rest → Type 0
Settles r s x = (j i : ℕ) → in_row r j ≡ true → 1 ≤ i → i ≤ 5 → settled s j i ≡ x j i

settled-alike : (s w : State) (j : ℕ) → stepping w j ≡ stepping s j → ((k : ℕ) → k < 8 → word w j k ≡ word s j k) → (i : ℕ) → i < 8 → settled w j i ≡ settled s j i
unfolding settled going
settled-alike s w j e h i l =
    λ n. pick (e n) (pick (eqb i 2) (h 3 (omega arith) n) (pick (eqb i 4) (rates_at (h 4 (omega arith) n) (h 2 (omega arith) n) (h 3 (omega arith) n)) (h i l n))) (h i l n)

settles-alike : (r : Row) (s w : State) (x : Rest) → ((j : ℕ) → in_row r j ≡ true → (stepping w j ≡ stepping s j) × ((k : ℕ) → k < 8 → word w j k ≡ word s j k)) → Settles r s x → Settles r w x
unfolding Settles
settles-alike r s w x h y j i m a b = settled-alike s w j (h j m).0 (h j m).1 i (omega arith) ∙ y j i m a b

-- ---- a word

module _ (r : Row) (s : State) (x : Rest) (y : Settles r s x) (z : Sized s) (c i v : ℕ) (small : c < 16) (l : i < 8) where
  abbrev w : State
  w = stored s (8 * c + i) v

  leaves : WordLeaves c i s w
  leaves = word-leaves c i v s l

  same-steps : (j : ℕ) → stepping w j ≡ stepping s j
  unfolding stepping
  same-steps j = ap bound (leaves.stepping j)

  stored_is : word w c i ≡ v
  unfolding with_initialised with_channel word
  stored_is = rw (stored_at s c i v l) (pick-cases (λ (u : State). word u c i ≡ v) (eqb i 0) (λ t. word_same s c i v small l z) (λ t. word_same s c i v small l z))

  others : (j : ℕ) → j ≢ c → (k : ℕ) → k < 8 → word w j k ≡ word s j k
  others j n k h = leaves.words j k (λ e. n (omega arith))

  stored-outside : in_row r c ≡ false → Settles r w x
  stored-outside m = settles-alike r s w x (λ j q. (same-steps j, others j (λ e. not-both (subst (λ k. in_row r k ≡ true) e q) m))) y

  stored-inside : stepping s c ≡ false → Settles r w (put x c i v)
  unfolding Settles
  stored-inside g j k m a b = by (eqb j c) refl (eqb k i) refl
    where
      by : (t : Bool) → eqb j c ≡ t → (u : Bool) → eqb k i ≡ u → settled w j k ≡ put x c i v j k
      by true t true u =
          let p : j ≡ c = eqb-true j c t in
          let q : k ≡ i = eqb-true k i u in
          subst (λ d. settled w d k ≡ put x c i v d k) (sym p) (subst (λ e. settled w c e ≡ put x c i v c e) (sym q) (at_rest w c i (same-steps c ∙ g) ∙ stored_is ∙ sym (put_same x c i v)))
      by true t false u =
          let p : j ≡ c = eqb-true j c t in
          let n : k ≢ i = eqb-false k i u in
          subst (λ d. in_row r d ≡ true → settled w d k ≡ put x c i v d k) (sym p)
          (λ e. at_rest w c k (same-steps c ∙ g) ∙ leaves.words c k (λ o. n (omega arith)) ∙ sym (at_rest s c k g) ∙ y c k e a b ∙ sym (put_other x c i v c k (inr n))) m
      by false t u o = settled-alike s w j (same-steps j) (others j (eqb-false j c t)) k (omega arith) ∙ y j k m a b ∙ sym (put_other x c i v j k (inl (eqb-false j c t)))

  -- a target is not taken while its primary is under way
  pub stored-felt : exists c i ≡ true → (in_row r c ≡ true → stepping s c ≡ false) → Settles r w (rests_all (felt_at r s v (AtWord c i)) x)
  unfolding felt_at rests_all rests
  stored-felt e g = by (in_row r c) refl
    where
      by : (b : Bool) → in_row r c ≡ b → Settles r w (rests_all (pick (b && exists c i) (Word c i v ∷ []) []) x)
      by true m = rw e (stored-inside (g m))
      by false m = stored-outside m

-- ---- a request of one channel

and_yes : (b : Bool) → (b && leb 2 3) ≡ b
and_yes true = refl
and_yes false = refl

-- the same words, and the same groups under way
settles-same : (r : Row) (s w : State) (x : Rest) → w.words ≡ s.words → w.channels ≡ s.channels → Settles r s x → Settles r w x
unfolding stepping channel word
settles-same r s w x e f y = settles-alike r s w x (λ j m. (ap (λ (k : List Latches). bound (channel_at k j).phase) f, λ k l. ap (λ (u : List ℕ). get_or u (8 * j + k) 0) e)) y

module _ (r : Row) (s : State) (x : Rest) (y : Settles r s x) (c : ℕ) where
  -- no request of a step
  quiet-request : (b : Bool) (v : ℕ) → v ≢ 3 → rests_all (pick b (Request c v ∷ []) []) x ≡ x
  unfolding rests_all rests
  quiet-request true v n = rw (ne_eqb v 3 n) refl
  quiet-request false v n = refl

  -- an initialise
  asked-initialise : Settles r (requested s c 2) x
  unfolding requested with_request with_reg
  asked-initialise = settles-same r s (with_request s c 2) x refl refl y

  -- a step, of a motor under way: where it is to go stands already
  stays : stepping s c ≡ true → in_row r c ≡ true → (d k : ℕ) → arrived_at x c d k ≡ x d k
  unfolding arrived_at Settles
  stays g m d k =
      let two : x c 2 ≡ word s c 3 = sym (y c 2 m (omega arith) (omega arith)) ∙ under-way s c 2 g ∙ going-two s c in
      let three : x c 3 ≡ word s c 3 = sym (y c 3 m (omega arith) (omega arith)) ∙ under-way s c 3 g ∙ going-other s c 3 (omega arith) (omega arith) in
      let four : x c 4 ≡ rates_at (word s c 4) (word s c 2) (word s c 3) = sym (y c 4 m (omega arith) (omega arith)) ∙ under-way s c 4 g ∙ going-four s c in
      let rates : rates_at (x c 4) (x c 2) (x c 3) ≡ x c 4 = (λ n. rates_at (four n) (two n) (three n)) ∙ rates-again (word s c 4) (word s c 2) (word s c 3) (word s c 3) ∙ sym four in
      let inner : (d k : ℕ) → put x c 4 (rates_at (x c 4) (x c 2) (x c 3)) d k ≡ x d k = put-stays x c 4 _ rates in
      put-stays (put x c 4 (rates_at (x c 4) (x c 2) (x c 3))) c 2 (x c 3) (three ∙ sym two ∙ sym (inner c 2)) d k ∙ inner d k

  asked-again : stepping s c ≡ true → Settles r (requested s c 3) x
  unfolding requested with_request with_reg
  asked-again g = rw g (settles-same r s (with_request s c 3) x refl refl y)

  again-felt : stepping s c ≡ true → Settles r (requested s c 3) (rests_all (pick (in_row r c) (Request c 3 ∷ []) []) x)
  unfolding rests_all rests Settles
  again-felt g = by (in_row r c) refl
    where
      by : (b : Bool) → in_row r c ≡ b → Settles r (requested s c 3) (rests_all (pick b (Request c 3 ∷ []) []) x)
      by true m = λ j i n a b. asked-again g j i n a b ∙ sym (stays g m j i)
      by false m = asked-again g

  -- a step, of a motor at rest
  module _ (z : Sized s) (small : c < 16) (g : stepping s c ≡ false) where
    abbrev u : State
    u = with_request (with_binding s c) c 3

    up : stepping u c ≡ true
    unfolding with_request with_reg with_binding stepping channel bound
    up = ap (λ (k : Channel). bound k.phase) (channel-same s c _ small z)

    other-steps : (j : ℕ) → j ≢ c → stepping u j ≡ stepping s j
    unfolding with_request with_reg with_binding stepping channel
    other-steps j n = ap (λ (k : Channel). bound k.phase) (channel-other s c _ j n)

    same_word : (j k : ℕ) → word u j k ≡ word s j k
    unfolding with_request with_reg with_binding with_channel word
    same_word j k = refl

    others-settle : (j i : ℕ) → j ≢ c → i < 8 → settled u j i ≡ settled s j i
    others-settle j i n l = settled-alike s u j (other-steps j n) (λ k h. same_word j k) i l

    first-outside : in_row r c ≡ false → Settles r u x
    unfolding Settles
    first-outside m j i n a b = others-settle j i (λ e. not-both (subst (λ k. in_row r k ≡ true) e n) m) (omega arith) ∙ y j i n a b

    stood : in_row r c ≡ true → (i : ℕ) → 1 ≤ i → i ≤ 5 → x c i ≡ word s c i
    unfolding Settles
    stood m i a b = sym (y c i m a b) ∙ at_rest s c i g

    first-own : in_row r c ≡ true → (i : ℕ) → 1 ≤ i → i ≤ 5 → going u c i ≡ arrived_at x c c i
    unfolding arrived_at
    first-own m i a b =
        let x' : Rest = put x c 4 (rates_at (x c 4) (x c 2) (x c 3)) in
        by_number (λ k. 1 ≤ k → k ≤ 5 → going u c k ≡ put x' c 2 (x c 3) c k) i
        (λ p q. going-two u c ∙ same_word c 3 ∙ sym (stood m 3 (omega arith) (omega arith)) ∙ sym (put_same x' c 2 (x c 3)))
        (λ p q. going-four u c ∙ (λ n. rates_at (same_word c 4 n) (same_word c 2 n) (same_word c 3 n)) ∙ (λ n. rates_at (sym (stood m 4 (omega arith) (omega arith)) n) (sym (stood m 2 (omega arith) (omega arith)) n) (sym (stood m 3 (omega arith) (omega arith)) n))
        ∙ sym (put_same x c 4 _) ∙ sym (put_other x' c 2 (x c 3) c 4 (inr (omega arith))))
        (λ n o p q. going-other u c i n o ∙ same_word c i ∙ sym (stood m i p q) ∙ sym (put_other x c 4 _ c i (inr o)) ∙ sym (put_other x' c 2 (x c 3) c i (inr n)))
        a b

    first-inside : in_row r c ≡ true → Settles r u (arrived_at x c)
    unfolding Settles arrived_at
    first-inside m j i n a b = by (eqb j c) refl
      where
        by : (t : Bool) → eqb j c ≡ t → settled u j i ≡ arrived_at x c j i
        by true t = subst (λ d. settled u d i ≡ arrived_at x c d i) (sym (eqb-true j c t)) (under-way u c i up ∙ first-own m i a b)
        by false t =
            let o : j ≢ c = eqb-false j c t in
            others-settle j i o (omega arith) ∙ y j i n a b ∙ sym (put_other x c 4 _ j i (inl o)) ∙ sym (put_other (put x c 4 (rates_at (x c 4) (x c 2) (x c 3))) c 2 (x c 3) j i (inl o))

    first-felt : Settles r (requested s c 3) (rests_all (pick (in_row r c) (Request c 3 ∷ []) []) x)
    unfolding rests_all rests requested
    first-felt = rw g (by (in_row r c) refl)
      where
        by : (b : Bool) → in_row r c ≡ b → Settles r u (rests_all (pick b (Request c 3 ∷ []) []) x)
        by true m = first-inside m
        by false m = first-outside m

  -- channel c with its two bits v
  pub channel-felt : (v : ℕ) → Sized s → c < 16 → IfYes (λ w. Settles r w (rests_all (pick (in_row r c && leb 2 v) (Request c v ∷ []) []) x)) (ask_channel v c s)
  channel-felt v z small =
      walk-channel (λ w. Settles r w (rests_all (pick (in_row r c && leb 2 v) (Request c v ∷ []) []) x)) v c s
      (λ a b. subst (Settles r s) (sym (quiet-request (in_row r c && leb 2 v) v b)) y)
      (λ e q2 q4. subst (Settles r (requested s c 2)) (sym (quiet-request (in_row r c && leb 2 v) v (λ f. omega arith))) asked-initialise)
      (λ e g. three e (again-felt g))
      (λ e q. three e (first-felt z small (free-still c s q.free)))
    where
      three : v ≡ 3 → Settles r (requested s c 3) (rests_all (pick (in_row r c) (Request c 3 ∷ []) []) x) → Settles r (requested s c 3) (rests_all (pick (in_row r c && leb 2 v) (Request c v ∷ []) []) x)
      three e k = subst (λ n. Settles r (requested s c 3) (rests_all (pick (in_row r c && leb 2 n) (Request c n ∷ []) []) x)) (sym e) (subst (λ b. Settles r (requested s c 3) (rests_all (pick b (Request c 3 ∷ []) []) x)) (sym (and_yes (in_row r c))) k)

-- ---- an HSRR word

-- with what the taken request does
yes_both : (P Q : State → Type 0) (v c : ℕ) (s : State) → ((u : State) → P u → requested s c v ≡ u → Q u) → IfYes P (ask_channel v c s) → IfYes Q (ask_channel v c s)
unfolding IfYes
yes_both P Q v c s h p = both (ask_channel v c s) p (channel-asks v c s)
  where
    both : (k : Asked) → IfYes P k → IfYes (λ w. requested s c v ≡ w) k → IfYes Q k
    both (Yes u) a e = h u a e
    both (No n) a e = tt

abbrev Heard : Row → Rest → ℕ → ℕ → ℕ → State → Type 0
Heard r x n a v w = Fine w × Settles r w (rests_all (gather n a (new_request r v)) x)

one-felt : (r : Row) (x : Rest) (n a v : ℕ) (w : State) → a + n < 16 → Fine w → Settles r w (rests_all (gather n a (new_request r v)) x) → IfYes (Heard r x (suc n) a v) (ask_channel (field 2 v (2 * ((a + n) % 8))) (a + n) w)
unfolding gather new_request
one-felt r x n a v w l f y =
    let k : ℕ = field 2 v (2 * ((a + n) % 8)) in
    let x' : Rest = rests_all (gather n a (new_request r v)) x in
    let P : State → Type 0 = λ u. Settles r u (rests_all (pick (in_row r (a + n) && leb 2 k) (Request (a + n) k ∷ []) []) x') in
    yes_both P (Heard r x (suc n) a v) k (a + n) w
    (λ u q e. (subst Fine e (fine-requested w (a + n) k l f), subst (Settles r u) (sym (rests-append (gather n a (new_request r v)) _ x)) q))
    (channel-felt r w x' y (a + n) k f.sized l)

channels-felt : (r : Row) (x : Rest) (n a v : ℕ) (s : State) → a + n ≤ 16 → Fine s → Settles r s x → IfYes (Heard r x n a v) (ask_channels n a v s)
unfolding ask_channels IfYes gather rests_all
channels-felt r x zero a v s l f y = (f, y)
channels-felt r x (suc n) a v s l f y =
    let k : ℕ = field 2 v (2 * ((a + n) % 8)) in
    yes-then (Heard r x n a v) (Heard r x (suc n) a v) (ask_channels n a v s) (ask_channel k (a + n)) (channels-felt r x n a v s (omega arith) f y) (λ w h. one-felt r x n a v w (omega arith) h.0 h.1)

-- ---- any write

not-functions : (i : ℕ) → (i ≡ 0) ⊎ (4 < i) → (leb 1 i && leb i 4) ≡ false
not-functions i n =
    fails (leb 1 i && leb i 4)
    (λ t. let a : 1 ≤ i = leb-true 1 i (and_left (leb 1 i) (leb i 4) t) in
    let b : i ≤ 4 = leb-true i 4 (and_right (leb 1 i) (leb i 4) t) in
    ⊎_elim (λ e. omega arith) (λ e. omega arith) n)

not-requests : (i : ℕ) → (i < 7) ⊎ (8 < i) → (leb 7 i && leb i 8) ≡ false
not-requests i n =
    fails (leb 7 i && leb i 8)
    (λ t. let a : 7 ≤ i = leb-true 7 i (and_left (leb 7 i) (leb i 8) t) in
    let b : i ≤ 8 = leb-true i 8 (and_right (leb 7 i) (leb i 8) t) in
    ⊎_elim (λ e. omega arith) (λ e. omega arith) n)

module _ (r : Row) (s : State) (x : Rest) (y : Settles r s x) (f : Fine s) (v : ℕ) where
  abbrev After : Place → State → Type 0
  After p w = Settles r w (rests_all (felt_at r s v p) x)

  settles-reg : (i n : ℕ) → Settles r (with_reg s i n) x
  unfolding with_reg
  settles-reg i n = settles-same r s (with_reg s i n) x refl refl y

  -- any register but HSRR is felt without effect on the words
  quiet-register : (i : ℕ) → (i < 7) ⊎ (8 < i) → rests_all (felt_at r s v (AtRegister i)) x ≡ x
  unfolding felt_at rests_all
  quiet-register i n =
      rw (not-requests i n)
      (pick-cases (λ (fs : List Felt). rests_all fs x ≡ x) (leb 1 i && leb i 4) (λ t. quiet-gather 4 (4 * (4 - i)) _ (λ j z. quiet-function r s v j z) x)
      (λ t. pick-cases (λ (fs : List Felt). rests_all fs x ≡ x) (leb 9 i && leb i 10) (λ u. quiet-gather 8 (8 * (10 - i)) _ (λ j z. quiet-priority r s v j z) x) (λ u. refl)))

  requests-are : (i : ℕ) → 7 ≤ i → i ≤ 8 → felt_at r s v (AtRegister i) ≡ gather 8 (8 * (8 - i)) (new_request r v)
  unfolding felt_at
  requests-are i a b = rw (not-functions i (inr (omega arith)), le-leb 7 i a, le-leb i 8 b) refl

  register-felt : (i : ℕ) → IfTaken (After (AtRegister i)) s (ask_register s i v)
  register-felt i =
      walk-register (After (AtRegister i)) s i v
      record {
        keep = λ e. subst (Settles r (with_reg s cisr (bit_and (reg s cisr) v))) (sym (quiet-register i (inr (omega arith)))) (settles-reg cisr _);
        plain = λ n o q. subst (Settles r (with_reg s i v)) (sym (quiet-register i q)) (settles-reg i v);
        functions = λ a b q. subst (Settles r (with_reg s i v)) (sym (quiet-register i (inl (omega arith)))) (settles-reg i v);
        requests = λ a b. yes-map (Heard r x 8 (8 * (8 - i)) v) (After (AtRegister i)) (ask_channels 8 (8 * (8 - i)) v s) (λ w h. subst (λ fs. Settles r w (rests_all fs x)) (sym (requests-are i a b)) h.1)
            (channels-felt r x 8 (8 * (8 - i)) v s (omega arith) f y);
      }

  missing-felt : (c i : ℕ) → exists c i ≡ false → After (AtWord c i) s
  unfolding felt_at rests_all
  missing-felt c i e = rw (and_no (in_row r c) (exists c i) e) y

  word-felt : (c i : ℕ) → c < 16 → i < 8 → (in_row r c ≡ true → i ≡ 3 → stepping s c ≡ false) → (b : Bool) → exists c i ≡ b → IfTaken (After (AtWord c i)) s (ask_word s c i v)
  unfolding ask_word IfTaken done
  word-felt c i small l n true e =
      walk-word (After (AtWord c i)) s c i v
      record {
        missing = λ q. absurd (not-both e q);
        target = λ a b d. stored-felt r s x y f.sized c i v small l e (λ m. n m a);
        free = λ q. stored-felt r s x y f.sized c i v small l e (λ m. free-still c s q);
      }
  word-felt c i small l n false e = pick-cases (IfTaken (After (AtWord c i)) s) (exists c i) (λ t. absurd (not-both t e)) (λ t. missing-felt c i e)

  place-felt : (p : Place) → PlaceGood p → ((c : ℕ) → in_row r c ≡ true → p ≡ AtWord c 3 → stepping s c ≡ false) → IfTaken (After p) s (ask_place s p v)
  unfolding ask_place PlaceGood IfTaken
  place-felt (AtRegister i) g n = register-felt i
  place-felt (AtWord c i) g n = word-felt c i g.0 g.1 (λ m e. n c m (ap (AtWord c) e)) (exists c i) refl
  place-felt (AtLate k) g n = tt
  place-felt Nowhere g n = tt

-- a write that is not taken leaves the state
pub kept : (k : Verdict) (s : State) → is_taken (answered_by k s).answer ≡ false → (answered_by k s).state ≡ s
unfolding answered_by is_taken
kept (Ok d) s e = absurd (not-both refl e)
kept (Err n) s e = refl

-- a target taken of a primary under way
target-taken : (c a v : ℕ) (s : State) → place a ≡ AtWord c 3 → is_taken (write_of s a v).answer ≡ true → event_of c (Writes a v) s ≡ Target
unfolding event_of is_target_of
target-taken c a v s e t = rw (e, eq-eqb c c refl, t) refl

bound-up : (s : State) (c : ℕ) → stepping s c ≡ true → is_bound s c ≡ true
unfolding is_bound
bound-up s c g = or_left (stepping s c) _ g

write-felt : (r : Row) (s : State) (x : Rest) (a v : ℕ) → Settles r s x → Fine s → ((p : ℕ) → in_row r p ≡ true → is_bound s p ≡ true → event_of p (Writes a v) s ≢ Target)
    → Settles r (does (Writes a v) s) (rests_all (felt_of r (Writes a v) s) x)
unfolding does felt_of write_of rests_all
write-felt r s x a v y f n = by (is_taken (write_of s a v).answer) refl
  where
    low : is_taken (write_of s a v).answer ≡ true → (c : ℕ) → in_row r c ≡ true → place a ≡ AtWord c 3 → (b : Bool) → stepping s c ≡ b → stepping s c ≡ false
    low t c m e true g = absurd (n c m (bound-up s c g) (target-taken c a v s e t))
    low t c m e false g = g

    by : (b : Bool) → is_taken (write_of s a v).answer ≡ b → Settles r (write_of s a v).state (rests_all (pick b (felt_at r s v (place a)) []) x)
    by true t =
        let e : gate s a v ≡ ask_place s (place a) v = gate-place s a v in
        rw e (taken_yes (After r s x y f v (place a)) s (ask_place s (place a) v) (place-felt r s x y f v (place a) (place-good a) (λ c m q. low t c m q (stepping s c) refl)) (rw e at t))
    by false t = subst (λ w. Settles r w x) (sym (kept (gate s a v) s t)) y

-- ---- a run

row_small : (r : Row) (j : ℕ) → r.final < 16 → in_row r j ≡ true → j < 16
unfolding in_row
row_small r j real m = omega (arith, leb-true j r.final (and_right (leb r.first j) (leb j r.final) m))

ticked : (r : Row) → r.final < 16 → (s : State) (x : Rest) → Good s → Settles r s x → Settles r (tick s) x
unfolding Settles
ticked r real s x g y j i m a b = settled-tick s g j (row_small r j real m) i (omega arith) (λ e. omega arith) ∙ y j i m a b

pub along-run : (r : Row) → r.final < 16 → (xs : List Act) (s : State) (x : Rest) → Words xs → Good s → Untouched r s xs → Settles r s x → Settles r (through s xs) (rests_all (felt r s xs) x)
unfolding Words Untouched through felt felt_of does rests_all rests
along-run r real [] s x w g u y = y
along-run r real (Ticks ∷ xs) s x w g u y = along-run r real xs (tick s) x w (good-tick s g) u.1 (ticked r real s x g y)
along-run r real (Writes a v ∷ xs) s x w g u y =
    subst (Settles r (through (does (Writes a v) s) xs)) (sym (rests-append (felt_of r (Writes a v) s) (felt r (does (Writes a v) s) xs) x))
    (along-run r real xs (does (Writes a v) s) (rests_all (felt_of r (Writes a v) s) x) w.1 (good-write a v s w.0 g) u.1 (write-felt r s x a v y g.0 u.0))
along-run r real (Nothing ∷ xs) s x w g u y = along-run r real xs s x w g u.1 y
