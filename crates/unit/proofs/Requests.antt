-- What a taken HSRR word leaves pending, channel by channel: `pends`.
use Prim.Native.Nat.{ℕ, zero, suc, ◌+◌, ◌-◌, ◌*◌, ◌/◌, ◌%◌, ◌≤◌, ◌<◌}
use native.Mathlib.Omega.{arith}
use native.Mathlib.Nat.{eq-or-lt_of_le}
use mathlib.Core.Bool.{Bool, true, false}
use mathlib.Core.Path.{◌≡◌, refl, ap, sym, subst, ◌∙◌}
use mathlib.Core.Logic.{◌≢◌, ◌⊎◌, ⊎_elim}
use lib.Dec.{eqb, leb}
use borrow.Author.Tests.{le-leb, ne_eqb, eqb-true, eqb-false}
use Rattle.words.specs.Choice.{pick}
use Rattle.words.specs.Field.{field}
use Rattle.words.proofs.ChoiceLaws.{pick-cases, not-both, fails, tests}
use Rattle.words.proofs.FieldLaws.{field_lt}
use Rattle.motor.specs.Group.{bound}
use Rattle.unit.specs.declared.State.{State}
use Rattle.unit.specs.declared.Channel.{Channel}
use Rattle.unit.specs.declared.Answered.{Answered}
use Rattle.unit.specs.declared.Deed.TheVariants.{Request}
use Rattle.unit.specs.declared.Place.TheVariants.{AtRegister}
use Rattle.unit.specs.TheUnit.{with_reg, with_channel, each, hsrr_of, reg, function, request, with_request, channel, with_binding, stepping}
use Rattle.unit.specs.Gate.{place, requested, Asked, Yes, No, ask_channels, verdict_of, ask_register, ask_place, requested_one, done}
use Rattle.unit.specs.Calls.{answered_by, write_of, is_taken}
use Rattle.unit.specs.Takes.{Pends, request_address}
use Rattle.unit.proofs.Reset.{Sized}
use Rattle.unit.proofs.Binding.{binds, names, keeps-name}
use Rattle.unit.proofs.Access.{sized-reg, sized-channel, sized-each, channel-other, hsrr-range, request-same, request-other, function-reg}
use Rattle.unit.proofs.Readings.{register-place, write-at}

-- ---- one channel's request

sized-bound : (s : State) (c : ℕ) → Sized s → Sized (pick (stepping s c) s (with_binding s c))
unfolding with_binding
sized-bound s c z = pick-cases Sized (stepping s c) (λ a. z) (λ a. sized-channel s c _ z)

sized-requested : (c r : ℕ) (s : State) → Sized s → Sized (requested s c r)
unfolding requested with_request
sized-requested c r s z =
    pick-cases Sized (eqb r 2) (λ a. sized-reg s _ _ z) (λ a. pick-cases Sized (eqb r 3) (λ b. sized-reg _ _ _ (sized-bound s c z)) (λ b. z))

-- what a request of another channel leaves of c
pub record Same (c : ℕ) (s t : State) : Type 0 where
  pub pending : request t c ≡ request s c
  pub own : channel t c ≡ channel s c
  pub stepper : function t c ≡ function s c
  pub words : t.words ≡ s.words

same : (c : ℕ) (s : State) → Same c s s
same c s = record { pending = refl; own = refl; stepper = refl; words = refl }

pub going : (c : ℕ) (s t : State) → channel t c ≡ channel s c → stepping t c ≡ stepping s c
unfolding stepping
going c s t e = ap (λ (x : Channel). bound x.phase) e

then_same : (c : ℕ) (s t u : State) → Same c s t → Same c t u → Same c s u
then_same c s t u p q =
    record {
      pending = q.pending ∙ p.pending;
      own = q.own ∙ p.own;
      stepper = q.stepper ∙ p.stepper;
      words = q.words ∙ p.words;
    }

module _ (j c : ℕ) (hj : j < 16) (hc : c < 16) (n : c ≢ j) where
  other-stores : (s : State) (r : ℕ) → Sized s → Same c s (with_request s j r)
  unfolding with_request with_reg channel
  other-stores s r z =
      record {
        pending = request-other s j r c hj hc n z;
        own = refl;
        stepper = function-reg s (hsrr_of j) _ c (omega (arith, hsrr-range j));
        words = refl;
      }

  other-steps : (s : State) (b : Bool) → Sized s → Same c s (with_request (pick b s (with_binding s j)) j 3)
  unfolding request function reg with_binding with_channel
  other-steps s true z = other-stores s 3 z
  other-steps s false z =
      let t : State = with_binding s j in
      let k : Same c s t = record { pending = refl; own = channel-other s j _ c n; stepper = refl; words = refl } in
      then_same c s t (with_request t j 3) k (other-stores t 3 (sized-channel s j _ z))

  other-same : (s : State) (r : ℕ) → Sized s → Same c s (requested s j r)
  unfolding requested
  other-same s r z =
      pick-cases (Same c s) (eqb r 2) (λ a. other-stores s 2 z)
      (λ a. pick-cases (Same c s) (eqb r 3) (λ b. other-steps s (stepping s j) z) (λ b. same c s))

-- what the word's two bits r for c come to, from s to t
pub record Comes (c r : ℕ) (s t : State) : Type 0 where
  pub asked : 2 ≤ r → request t c ≡ r
  pub left : r < 2 → request t c ≡ request s c
  pub goes : r ≡ 3 → stepping t c ≡ true
  pub named : r ≡ 3 → stepping s c ≡ false → (channel t c).timer ≡ (channel s c).kind
  pub again : r ≡ 3 → stepping s c ≡ true → (channel t c).timer ≡ (channel s c).timer
  pub stays : r ≢ 3 → channel t c ≡ channel s c

own-comes : (s : State) (c r : ℕ) → c < 16 → r < 4 → Sized s → Comes c r s (requested s c r)
unfolding requested channel with_request with_reg
own-comes s c r h l z =
    record {
      asked = λ m. stores m;
      left = λ m. ap (λ t. request t c) (asks_nothing m);
      goes = λ m. subst (λ k. stepping (requested s c k) c ≡ true) (sym m) (binds s c h z);
      named = λ m n. subst (λ k. (channel (requested s c k) c).timer ≡ (channel s c).kind) (sym m) (names s c h z n);
      again = λ m y. subst (λ k. (channel (requested s c k) c).timer ≡ (channel s c).timer) (sym m) (keeps-name s c y);
      stays = λ n. pick-cases Still (eqb r 2) (λ a. refl) (λ a. pick-cases Still (eqb r 3) (λ b. absurd (n (eqb-true r 3 b))) (λ b. refl));
    }
  where
    Still : State → Type 0
    Still t = channel t c ≡ channel s c

    stores : 2 ≤ r → request (requested s c r) c ≡ r
    stores m =
        pick-cases (λ t. request t c ≡ r) (eqb r 2) (λ a. request-same s c 2 (omega arith) z ∙ sym (eqb-true r 2 a))
        (λ a. pick-cases (λ t. request t c ≡ r) (eqb r 3) (λ b. request-same _ c 3 (omega arith) (sized-bound s c z) ∙ sym (eqb-true r 3 b))
        (λ b. let n : r ≢ 2 = eqb-false r 2 a in let k : r ≢ 3 = eqb-false r 3 b in absurd (omega arith)))

    asks_nothing : r < 2 → requested s c r ≡ s
    asks_nothing m = rw (ne_eqb r 2 (λ e. omega arith), ne_eqb r 3 (λ e. omega arith))

-- ---- the eight of a word

module _ (v a c : ℕ) (s : State) (z : Sized s) (top : a + 8 ≤ 16) (small : c < 16) where
  abbrev after : ℕ → State
  after n = each n a (requested_one v) s

  sized-after : (n : ℕ) → Sized (after n)
  unfolding requested_one
  sized-after n = sized-each n a (requested_one v) (λ j t q. sized-requested j _ t q) s z

  -- a channel that is none of the first n
  pub not_yet : (n : ℕ) → n ≤ 8 → ((k : ℕ) → k < n → c ≢ a + k) → Same c s (after n)
  unfolding each requested_one
  not_yet zero m h = same c s
  not_yet (suc n) m h =
      then_same c s (after n) _ (not_yet n (omega arith) (λ k l. h k (omega arith))) (other-same (a + n) c (omega arith) small (h n (omega arith)) (after n) _ (sized-after n))

  pub comes : (n : ℕ) → n ≤ 8 → a ≤ c → c < a + n → Comes c (field 2 v (2 * (c % 8))) s (after n)
  unfolding each requested_one
  comes zero m low h = absurd (omega arith)
  comes (suc n) m low h = ⊎_elim (λ e. here e) (λ e. there e (comes n (omega arith) low e)) (eq-or-lt_of_le (let k : c ≤ a + n = omega arith in k))
    where
      here : c ≡ a + n → Comes c (field 2 v (2 * (c % 8))) s (requested (after n) (a + n) (field 2 v (2 * ((a + n) % 8))))
      here e =
          let p : Same c s (after n) = not_yet n (omega arith) (λ k l. omega arith) in
          let q : Comes c (field 2 v (2 * (c % 8))) (after n) (requested (after n) c (field 2 v (2 * (c % 8)))) = own-comes (after n) c _ small (field_lt 2 v (2 * (c % 8))) (sized-after n) in
          subst (λ j. Comes c (field 2 v (2 * (c % 8))) s (requested (after n) j (field 2 v (2 * (j % 8))))) e
          record {
            asked = q.asked;
            left = λ l. q.left l ∙ p.pending;
            goes = q.goes;
            named = λ m r. q.named m (going c s (after n) p.own ∙ r) ∙ ap (λ (k : Channel). k.kind) p.own;
            again = λ m y. q.again m (going c s (after n) p.own ∙ y) ∙ ap (λ (k : Channel). k.timer) p.own;
            stays = λ l. q.stays l ∙ p.own;
          }

      there : c < a + n → Comes c (field 2 v (2 * (c % 8))) s (after n) → Comes c (field 2 v (2 * (c % 8))) s (requested (after n) (a + n) (field 2 v (2 * ((a + n) % 8))))
      there l p =
          let q : Same c (after n) (requested (after n) (a + n) (field 2 v (2 * ((a + n) % 8)))) = other-same (a + n) c (omega arith) small (omega arith) (after n) _ (sized-after n) in
          record {
            asked = λ x. q.pending ∙ p.asked x;
            left = λ x. q.pending ∙ p.left x;
            goes = λ x. going c (after n) _ q.own ∙ p.goes x;
            named = λ x n. ap (λ (k : Channel). k.timer) q.own ∙ p.named x n;
            again = λ x y. ap (λ (k : Channel). k.timer) q.own ∙ p.again x y;
            stays = λ x. q.own ∙ p.stays x;
          }

-- ---- the write

taken-state : (k : Asked) (a v : ℕ) (s : State) → is_taken (answered_by (verdict_of k (Request a v)) s).answer ≡ true → (answered_by (verdict_of k (Request a v)) s).state ≡ each 8 a (requested_one v) s
unfolding verdict_of answered_by is_taken done
taken-state (Yes w) a v s t = refl
taken-state (No n) a v s t = absurd (not-both t refl)

pub request-write : (s : State) (c v : ℕ) → c < 16 → write_of s (request_address c) v ≡ answered_by (verdict_of (ask_channels 8 (8 * (c / 8)) v s) (Request (8 * (c / 8)) v)) s
unfolding ask_place ask_register
request-write s c v h =
    let e : request_address c ≡ 0xe0a + 2 * (7 + (1 - c / 8)) = omega arith in
    let p : place (request_address c) ≡ AtRegister (7 + (1 - c / 8)) = ap place e ∙ register-place (7 + (1 - c / 8)) (omega arith) in
    let q : 8 * (8 - (7 + (1 - c / 8))) ≡ 8 * (c / 8) = omega arith in
    rw (
      write-at s (request_address c) v (AtRegister (7 + (1 - c / 8))) p,
      ne_eqb (7 + (1 - c / 8)) 11 (λ q. omega arith),
      fails (leb (7 + (1 - c / 8)) 4) (λ t. omega (arith, tests)),
      le-leb 1 (7 + (1 - c / 8)) (omega arith),
      le-leb 7 (7 + (1 - c / 8)) (omega arith),
      le-leb (7 + (1 - c / 8)) 8 (omega arith),
      q,
    )

pub pends : (s : State) (c v : ℕ) → Sized s → c < 16 → is_taken (write_of s (request_address c) v).answer ≡ true → Pends c v s (write_of s (request_address c) v).state
unfolding request hsrr_of
pends s c v z h t =
    let e = request-write s c v h in
    let q : (write_of s (request_address c) v).state ≡ each 8 (8 * (c / 8)) (requested_one v) s =
    ap (λ (x : Answered). x.state) e ∙ taken-state (ask_channels 8 (8 * (c / 8)) v s) (8 * (c / 8)) v s (ap (λ (x : Answered). is_taken x.answer) (sym e) ∙ t) in
    let k : Comes c (field 2 v (2 * (c % 8))) s (each 8 (8 * (c / 8)) (requested_one v) s) = comes v (8 * (c / 8)) c s z (omega arith) h 8 (omega arith) (omega arith) (omega arith) in
    subst (Pends c v s) (sym q) record { asked = k.asked; left = k.left; goes = k.goes; named = k.named; keeps = kept k }
  where
    w : State
    w = each 8 (8 * (c / 8)) (requested_one v) s

    by_three : Comes c (field 2 v (2 * (c % 8))) s w → stepping s c ≡ true → (b : Bool) → eqb (field 2 v (2 * (c % 8))) 3 ≡ b
        → (channel w c).timer ≡ (channel s c).timer
    by_three k g true e = k.again (eqb-true _ 3 e) g
    by_three k g false e = ap (λ (y : Channel). y.timer) (k.stays (eqb-false _ 3 e))

    kept : Comes c (field 2 v (2 * (c % 8))) s w → (field 2 v (2 * (c % 8)) ≢ 3) ⊎ (stepping s c ≡ true) → (channel w c).timer ≡ (channel s c).timer
    kept k x = ⊎_elim (λ n. ap (λ (y : Channel). y.timer) (k.stays n)) (λ g. by_three k g (eqb (field 2 v (2 * (c % 8))) 3) refl) x
