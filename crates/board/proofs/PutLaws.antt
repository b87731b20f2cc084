-- What a written setting changes, and what it leaves.
use Prim.Native.Nat.{ℕ, ◌+◌, ◌*◌, ◌%◌, ◌<◌}
use native.Mathlib.Omega.{arith}
use mathlib.Core.Bool.{Bool, true, false}
use mathlib.Core.Path.{◌≡◌, refl, ap, sym, subst, ◌∙◌}
use mathlib.Core.Logic.{◌≢◌}
use lib.Dec.{eqb}
use lib.ListN.{get_or}
use borrow.Author.Tests.{eqb-true, eqb-false}
use Rattle.words.specs.Field.{field}
use Rattle.words.proofs.ChoiceLaws.{fails, not-both}
use Rattle.motor.specs.Group.{bound}
use Rattle.unit.specs.declared.State.{State}
use Rattle.unit.specs.declared.Channel.{Channel}
use Rattle.unit.specs.declared.Place.{Place}
use Rattle.unit.specs.declared.Place.TheVariants.{AtRegister, AtWord, AtLate, Nowhere}
use Rattle.unit.specs.TheUnit.{reg, with_reg, hsrr_of, request, channel, with_channel, with_initialised, word, with_word, with_words, exists, stepping}
use Rattle.unit.specs.Gate.{stored, done}
use Rattle.unit.specs.Calls.{word_at}
use Rattle.unit.proofs.Reset.{Sized}
use Rattle.unit.proofs.Access.{sized-reg, sized-word, word_same, reg_same, reg-other, channel-same, channel-other, channel-keeps, hsrr-range}
use Rattle.history.specs.Leaves.{WordLeaves}
use Rattle.history.proofs.Writes.{stored_at, stored-cases}
use Rattle.history.proofs.LitWrites.{sized-stored}
use Rattle.history.proofs.Leaves.{word-leaves}
use Rattle.board.specs.Loads.{is_setting_register}
use Rattle.board.proofs.AddressLaws.{register-cases, Settled}
use Rattle.board.proofs.WriteLaws.{Still, deed_at, put, not-requests}

-- ---- a stored word

stored-word : (s : State) (c i v : ℕ) → c < 16 → i < 8 → Sized s → word (stored s (8 * c + i) v) c i ≡ v
unfolding with_initialised with_channel word
stored-word s c i v h l z = stored-cases (λ t. word t c i ≡ v) s c i v l (λ e. word_same s c i v h l z) (word_same s c i v h l z)

stored-ways : (s : State) (c i v d : ℕ) → i < 8 → (channel (stored s (8 * c + i) v) d).way ≡ (channel s d).way
unfolding with_initialised with_word with_words channel
stored-ways s c i v d l =
    stored-cases (λ t. (channel t d).way ≡ (channel s d).way) s c i v l
    (λ e. channel-keeps (λ (y : Channel). y.way) (with_word s c i v) c _ d refl) refl

cleared-channel : (s : State) (c : ℕ) → c < 16 → Sized s → (channel (with_initialised s c false) c).initialised ≡ false
unfolding with_initialised
cleared-channel s c h z = ap (λ (y : Channel). y.initialised) (channel-same s c _ h z)

stays-cleared : (s : State) (c d : ℕ) → c < 16 → Sized s → (channel s d).initialised ≡ false
    → (channel (with_initialised s c false) d).initialised ≡ false
unfolding with_initialised
stays-cleared s c d h z e = by (eqb d c) refl
  where
    by : (b : Bool) → eqb d c ≡ b → (channel (with_initialised s c false) d).initialised ≡ false
    by true t = subst (λ k. (channel (with_initialised s c false) k).initialised ≡ false) (sym (eqb-true d c t)) (cleared-channel s c h z)
    by false t = ap (λ (y : Channel). y.initialised) (channel-other s c _ d (eqb-false d c t)) ∙ e

-- ---- what is left alone

-- all that `Leaves` says but that each channel is uninitialised
pub record Keeps (s t : State) : Type 0 where
  pub registers : (i : ℕ) → is_setting_register i ≡ false → reg t i ≡ reg s i
  pub pins : t.pins ≡ s.pins
  pub clock : t.timers ≡ s.timers
  pub slots : t.slots ≡ s.slots
  pub missing : (c i : ℕ) → i < 8 → exists c i ≡ false → word t c i ≡ word s c i
  pub kinds : (c : ℕ) → (channel t c).kind ≡ (channel s c).kind
  pub timers : (c : ℕ) → (channel t c).timer ≡ (channel s c).timer
  pub levels : (c : ℕ) → (channel t c).level ≡ (channel s c).level
  pub ways : (c : ℕ) → (channel t c).way ≡ (channel s c).way
  pub phases : (c : ℕ) → (channel t c).phase ≡ (channel s c).phase
  pub late : (c : ℕ) → (channel t c).late ≡ (channel s c).late

pub keeps-refl : (s : State) → Keeps s s
keeps-refl s =
    record { registers = λ i e. refl; pins = refl; clock = refl; slots = refl; missing = λ c i l e. refl; kinds = λ c. refl; timers = λ c. refl; levels = λ c. refl; ways = λ c. refl; phases = λ c. refl; late = λ c. refl }

pub keeps-trans : (s t w : State) → Keeps s t → Keeps t w → Keeps s w
keeps-trans s t w x y =
    record {
      registers = λ i e. y.registers i e ∙ x.registers i e;
      pins = y.pins ∙ x.pins;
      clock = y.clock ∙ x.clock;
      slots = y.slots ∙ x.slots;
      missing = λ c i l e. y.missing c i l e ∙ x.missing c i l e;
      kinds = λ c. y.kinds c ∙ x.kinds c;
      timers = λ c. y.timers c ∙ x.timers c;
      levels = λ c. y.levels c ∙ x.levels c;
      ways = λ c. y.ways c ∙ x.ways c;
      phases = λ c. y.phases c ∙ x.phases c;
      late = λ c. y.late c ∙ x.late c;
    }

pub put_keeps : (s : State) (p : Place) (v : ℕ) → Settled p → Keeps s (put p v s)
unfolding put deed_at done Settled with_reg reg channel word
put_keeps s (AtRegister i) v x =
    record {
      registers = λ k e. reg-other s i v k (λ q. not-both x (subst (λ j. is_setting_register j ≡ false) q e));
      pins = refl;
      clock = refl;
      slots = refl;
      missing = λ c k l e. refl;
      kinds = λ c. refl;
      timers = λ c. refl;
      levels = λ c. refl;
      ways = λ c. refl;
      phases = λ c. refl;
      late = λ c. refl;
    }
put_keeps s (AtWord c i) v x =
    let y : WordLeaves c i s (stored s (8 * c + i) v) = word-leaves c i v s x.1 in
    record {
      registers = λ k e. ap (λ r. get_or r k 0) y.registers;
      pins = y.pins;
      clock = y.clock;
      slots = y.slots;
      missing = λ d k l e. y.words d k (λ q. apart c i d k x.1 l x.2 e q);
      kinds = y.kinds;
      timers = y.timers;
      levels = y.levels;
      ways = λ d. stored-ways s c i v d x.1;
      phases = y.stepping;
      late = y.late;
    }
  where
    apart : (c i d k : ℕ) → i < 8 → k < 8 → exists c i ≡ true → exists d k ≡ false → 8 * d + k ≡ 8 * c + i → ⊥
    apart c i d k h l e f q =
        let a : d ≡ c = omega arith in
        let b : k ≡ i = omega arith in
        not-both e (subst (λ m. exists c m ≡ false) b (subst (λ m. exists m k ≡ false) a f))
put_keeps s (AtLate k) v x = absurd x
put_keeps s Nowhere v x = absurd x

not-setting : (c : ℕ) → is_setting_register (hsrr_of c) ≡ false
not-setting c = fails (is_setting_register (hsrr_of c)) (λ t. not-requests (hsrr_of c) t (hsrr-range c).0 (hsrr-range c).1)

-- where so much is kept the motors stay still
pub keeps-still : (s t : State) → Keeps s t → Still s → Still t
unfolding Still stepping request
keeps-still s t x f c h =
    (ap bound (x.phases c) ∙ (f c h).0, ap (λ r. field 2 r (2 * (c % 8))) (x.registers (hsrr_of c) (not-setting c)) ∙ (f c h).1)

-- ---- what is changed

pub put-sized : (s : State) (p : Place) (v : ℕ) → Settled p → Sized s → Sized (put p v s)
unfolding put deed_at done Settled
put-sized s (AtRegister i) v x z = sized-reg s i v z
put-sized s (AtWord c i) v x z = sized-stored s (8 * c + i) v z
put-sized s (AtLate k) v x z = absurd x
put-sized s Nowhere v x z = absurd x

small-register : (i : ℕ) → is_setting_register i ≡ true → i < 12
small-register i e = register-cases (i < 12) i e (λ h l. omega arith) (λ h l. omega arith)

-- the written setting reads as the value
pub put_same : (s : State) (p : Place) (v : ℕ) → Settled p → Sized s → word_at (put p v s) p ≡ v
unfolding put deed_at done Settled word_at
put_same s (AtRegister i) v x z = reg_same s i v (small-register i x) z
put_same s (AtWord c i) v x z = rw x.2 (stored-word s c i v x.0 x.1 z)
put_same s (AtLate k) v x z = absurd x
put_same s Nowhere v x z = absurd x

-- and any other reads as before
pub put_other : (s : State) (p q : Place) (v : ℕ) → Settled p → Settled q → p ≢ q → word_at (put p v s) q ≡ word_at s q
unfolding put deed_at done Settled word_at with_reg word reg
put_other s (AtRegister i) (AtRegister j) v x y n = reg-other s i v j (λ e. n (ap AtRegister (sym e)))
put_other s (AtRegister i) (AtWord d k) v x y n = refl
put_other s (AtWord c i) (AtRegister j) v x y n = ap (λ r. get_or r j 0) (word-leaves c i v s x.1).registers
put_other s (AtWord c i) (AtWord d k) v x y n = rw y.2 ((word-leaves c i v s x.1).words d k (λ e. n (same_place e)))
  where
    same_place : 8 * d + k ≡ 8 * c + i → AtWord c i ≡ AtWord d k
    same_place e =
        let l : i < 8 = x.1 in
        let m : k < 8 = y.1 in
        let a : c ≡ d = omega arith in
        let b : i ≡ k = omega arith in
        cc
put_other s (AtWord c i) (AtLate k) v x y n = absurd y
put_other s (AtWord c i) Nowhere v x y n = absurd y
put_other s (AtRegister i) (AtLate k) v x y n = absurd y
put_other s (AtRegister i) Nowhere v x y n = absurd y
put_other s (AtLate k) q v x y n = absurd x
put_other s Nowhere q v x y n = absurd x

-- ---- who is initialised

pub put-clears : (s : State) (c v : ℕ) → c < 16 → Sized s → (channel (put (AtWord c 0) v s) c).initialised ≡ false
unfolding put deed_at done
put-clears s c v h z = rw (stored_at s c 0 v (omega arith)) (cleared-channel (with_word s c 0 v) c h (sized-word s c 0 v z))

pub put-stays-cleared : (s : State) (p : Place) (v d : ℕ) → Settled p → Sized s → (channel s d).initialised ≡ false
    → (channel (put p v s) d).initialised ≡ false
unfolding put deed_at done Settled with_reg with_word with_words channel
put-stays-cleared s (AtRegister i) v d x z e = e
put-stays-cleared s (AtWord c i) v d x z e =
    stored-cases (λ t. (channel t d).initialised ≡ false) s c i v x.1
    (λ q. stays-cleared (with_word s c i v) c d x.0 (sized-word s c i v z) e) e
put-stays-cleared s (AtLate k) v d x z e = absurd x
put-stays-cleared s Nowhere v d x z e = absurd x
