-- Which words a tick can change: CHANNEL_CONTROL, and of a primary under way its position and word 4: `kept-tick`.
use Prim.Native.Nat.{ℕ, ◌+◌, ◌*◌, ◌<◌}
use native.Mathlib.Omega.{arith}
use mathlib.Core.Bool.{true}
use mathlib.Core.List.{List}
use mathlib.Core.Path.{◌≡◌, refl, ap, sym, subst, ◌∙◌}
use mathlib.Core.Logic.{◌≢◌, ◌⊎◌, inl, inr, ⊎_elim}
use lib.ListN.{get_or}
use Rattle.words.specs.Clock.{due}
use Rattle.words.proofs.ChoiceLaws.{pick-cases}
use Rattle.slots.specs.declared.Slots.{Slots}
use Rattle.motor.specs.declared.Way.{Way}
use Rattle.motor.specs.declared.Outcome.{Outcome}
use Rattle.motor.specs.declared.Outcome.TheVariants.{Arrived, Step}
use Rattle.unit.specs.declared.State.{State}
use Rattle.unit.specs.TheUnit.{with_reg, with_timers, with_pins, with_channel, with_slots, with_request, with_status, with_pin, with_set_up, with_level, with_phase, time_for, word, with_word, size, stepping, with_late}
use Rattle.unit.specs.Stepping.{pin_out, pins_out, prepared, match_set, stepped, outcome}
use Rattle.unit.specs.OneTick.{matched, initialise, served, clocked, matches, tick}
use Rattle.unit.proofs.Reset.{Sized}
use Rattle.unit.proofs.Access.{word-other}
use Rattle.history.proofs.TickWalk.{walk-each, walk-matched, walk-served, walk-slot}
use Rattle.history.proofs.Frame.{Going, under-way}
use Rattle.history.proofs.Alone.{Fades, fades-matches, fades-slots}

words-pins : (s : State) (c : ℕ) → (pins_out s c).words ≡ s.words
unfolding pins_out pin_out with_pin with_pins
words-pins s c = walk-each (λ (t : State). t.words ≡ s.words) (size s c) c pin_out (λ j t x y e. e) s refl

words-matches : (s : State) → (matches s).words ≡ s.words
unfolding matches clocked with_slots with_timers with_phase with_channel
words-matches s =
    walk-each (λ (t : State). t.words ≡ s.words) 16 0 matched (λ j t x y e. walk-matched (λ (u : State). u.words ≡ s.words) j t (λ g time. words-pins t j ∙ e) e) (clocked s) refl

words-match_set : (s : State) (c : ℕ) (w : Way) (t : ℕ) → (match_set s c w t).words ≡ s.words
unfolding match_set with_phase with_channel
words-match_set s c w t = pick-cases (λ (u : State). u.words ≡ s.words) (due (time_for s c) t) (λ a. words-pins s c) (λ a. refl)

module _ (b : State) where
  unfoldable pub KeptWords : State → Type 0
  KeptWords s = (j i : ℕ) → i < 8 → i ≢ 0 → (stepping b j ≡ true → (i ≢ 2) × (i ≢ 4)) → word s j i ≡ word b j i

  kept_by : (s t : State) → t.words ≡ s.words → KeptWords s → KeptWords t
  unfolding KeptWords word
  kept_by s t e k j i l n g = ap (λ (x : List ℕ). get_or x (8 * j + i) 0) e ∙ k j i l n g

  kept-control : (s : State) (c v : ℕ) → KeptWords s → KeptWords (with_word s c 0 v)
  unfolding KeptWords
  kept-control s c v k j i l n g = word-other s c 0 v j i (λ e. n (omega arith)) ∙ k j i l n g

  kept-own : (s : State) (c m v : ℕ) → stepping b c ≡ true → (m ≡ 2) ⊎ (m ≡ 4) → KeptWords s → KeptWords (with_word s c m v)
  unfolding KeptWords
  kept-own s c m v up o k j i l n g = word-other s c m v j i (other o) ∙ k j i l n g
    where
      other : (m ≡ 2) ⊎ (m ≡ 4) → 8 * j + i ≢ 8 * c + m
      other o e =
          let p : (j ≡ c) × (i ≡ m) = ⊎_elim (λ q. (omega arith, omega arith)) (λ q. (omega arith, omega arith)) o in
          let z : (i ≢ 2) × (i ≢ 4) = g (subst (λ x. stepping b x ≡ true) (sym p.0) up) in
          ⊎_elim (λ q. z.0 (p.1 ∙ q)) (λ q. z.1 (p.1 ∙ q)) o

  kept-prepared : (w : Way) (m j : ℕ) (s : State) → KeptWords s → KeptWords (prepared w m j s)
  unfolding prepared with_level with_channel
  kept-prepared w m j s k = kept_by _ _ refl (kept-control s j _ k)

  kept-outcome : (s : State) (c reference : ℕ) (o : Outcome) → stepping b c ≡ true → KeptWords s → KeptWords (outcome s c reference o)
  unfolding outcome stepped with_status with_reg with_phase with_channel
  kept-outcome s c reference Arrived up k = kept_by s _ refl k
  kept-outcome s c reference (Step w n) up k =
      kept_by _ _ (words-match_set _ c w _) (walk-each KeptWords (size s c) c (prepared w _) (λ j t x y. kept-prepared w _ j t) _ (kept-own _ c 4 _ up (inr refl) (kept-own s c 2 _ up (inl refl) k)))

  kept-initialise : (s : State) (c : ℕ) → KeptWords s → KeptWords (initialise c s)
  unfolding initialise with_status with_reg with_set_up with_channel with_pin with_pins
  kept-initialise s c k = kept_by _ _ refl (kept-control _ c _ (kept_by s _ refl k))

  kept-served : (c : ℕ) (s : State) → c < 16 → Fades b s → KeptWords s → KeptWords (served c s)
  unfolding with_request with_reg with_late with_channel
  kept-served c s h f k =
      walk-served KeptWords c s
      record {
        clears = kept_by s _ refl k;
        passes = λ a d. k;
        sets-up = λ t a. kept-initialise t c;
        moves = λ t reference o a. kept-outcome t c reference o (f.still c (under-way s c h f.going a));
        tells = λ t n. kept_by t _ refl;
      }

  kept_self : KeptWords b
  unfolding KeptWords
  kept_self j i l n g = refl

  kept-slots : (x : Slots) (s : State) → KeptWords s → KeptWords (with_slots s x)
  unfolding with_slots
  kept-slots x s k = kept_by s _ refl k

  pub kept-tick : Sized b → Going b → KeptWords (tick b)
  kept-tick z g =
      let same : KeptWords (matches b) = kept_by b (matches b) (words-matches b) kept_self in
      walk-slot (λ v. KeptWords) b same (λ c u l. kept-served c (with_slots (matches b) u) l (fades-slots b u (matches b) (fades-matches b z g)) (kept-slots u (matches b) same))
