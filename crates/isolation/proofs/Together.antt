-- Two moves that begin alike, as many counts after their first services: `together`.
use Prim.Native.Nat.{ℕ, zero, suc, ◌+◌, ◌-◌, ◌*◌, ◌%◌, ◌≤◌, ◌<◌}
use native.Mathlib.Omega.{arith}
use mathlib.Core.Bool.{Bool, true, false}
use mathlib.Core.Path.{◌≡◌, refl, ap, sym, ◌∙◌}
use Rattle.words.specs.Field.{bit_of}
use Rattle.words.specs.Rotation.{rotated_right}
use Rattle.words.proofs.ChoiceLaws.{not-both}
use Rattle.motor.specs.declared.Way.{Way}
use Rattle.motor.specs.declared.Way.TheVariants.{Right, Left}
use Rattle.motor.specs.declared.Motor.{Motor}
use Rattle.motor.specs.declared.Phase.{Phase}
use Rattle.motor.specs.declared.Phase.TheVariants.{Resting, Requested, Armed, Matched}
use Rattle.motor.specs.declared.Outcome.{Outcome}
use Rattle.motor.specs.declared.Outcome.TheVariants.{Arrived, Step}
use Rattle.motor.specs.Stepping.{period, on_request, moved, beside}
use Rattle.motor.specs.Track.{Valid}
use Rattle.motor.specs.Group.{pending}
use Rattle.motor.specs.Schedule.{went_on, decides_at, walked, Stands, OnSchedule, acted}
use Rattle.motor.proofs.Schedule.{schedules}
use Rattle.unit.specs.declared.State.{State}
use Rattle.unit.specs.TheUnit.{pin, channel, channel_control, position, mod_count, next_rate}
use Rattle.unit.specs.Pending.{is_matched}
use Rattle.unit.proofs.Access.{mod-small}
use Rattle.history.proofs.Look.{look}
use Rattle.history.proofs.Own.{view_in, view, group_in}
use Rattle.history.proofs.Parts.{part}
use Rattle.history.proofs.Pins.{Seen}
use Rattle.isolation.specs.OneMove.{Agree}
use Rattle.isolation.proofs.Drawn.{back_count, is_armed, Drawn}
use Rattle.isolation.proofs.Faced.{facing, request-faced, faced}

-- MOD_CNT where it was m0 at p0, at the place p
unfoldable count_at : ℕ → ℕ → ℕ → ℕ
count_at p0 m0 p = (m0 + p + 15 * p0) % 16

count_at_lem : (p0 m0 p x : ℕ) → x < 16 → (x + p0) % 16 ≡ (m0 + p) % 16 → x ≡ count_at p0 m0 p
unfolding count_at
count_at_lem p0 m0 p x h e = omega arith

back_at : (w : Way) (p0 m0 p x : ℕ) → x < 16 → (x + p0) % 16 ≡ (m0 + beside w p) % 16 → back_count w x ≡ count_at p0 m0 p
unfolding back_count count_at beside
back_at Right p0 m0 p x h e = omega arith
back_at Left p0 m0 p x h e = omega arith

-- what a pin shows after so many matches
unfoldable shown_at : ℕ → ℕ → ℕ → Motor → ℕ → Bool
shown_at p0 m0 x m n = bit_of (rotated_right x (count_at p0 m0 (walked n m).position)) 15

only : (c0 c1 f e n : ℕ) (m : Motor) (p : Phase) → is_matched p ≡ false → Stands c0 c1 m f e n p → pending p ≡ false
unfolding is_matched Stands pending
only c0 c1 f e n m Resting g x = refl
only c0 c1 f e n m Requested g x = absurd x
only c0 c1 f e n m (Armed t) g x = refl
only c0 c1 f e n m (Matched t w) g x = absurd (not-both refl g)

-- a move that was at its target has made no step
none_made : (c0 c1 f e n : ℕ) (m : Motor) (p : Phase) → decides_at 0 (walked 0 m) ≡ Arrived → ((k : ℕ) → k < n → decides_at k (walked k m) ≡ Arrived → ⊥) → Stands c0 c1 m f e n p → (n ≡ 0) × (acted n p ≡ 0)
unfolding Stands acted
none_made c0 c1 f e zero m Resting a w x = (refl, refl)
none_made c0 c1 f e zero m Requested a w x = absurd x
none_made c0 c1 f e zero m (Armed t) a w x = absurd (omega (arith, x.1))
none_made c0 c1 f e zero m (Matched t u) a w x = absurd (omega (arith, x.1))
none_made c0 c1 f e (suc n) m p a w x = absurd (w 0 (omega arith) a)

module _ (c p0 m0 end : ℕ) (source : ℕ → ℕ) (s : State) (d : Drawn c p0 m0 end source s) (c0 c1 f e : ℕ) (m : Motor) (o : OnSchedule c0 c1 m f e (view s c).group) where
  place-now : position s c ≡ (walked o.steps m).position
  unfolding view view_in group_in look position
  place-now = ap (λ (y : Motor). y.position) o.motor

  way_now : (channel s c).way ≡ (walked o.steps m).way
  unfolding view view_in group_in look
  way_now = ap (λ (y : Motor). y.way) o.motor

  count-now : mod_count s c ≡ count_at p0 m0 (walked o.steps m).position
  count-now = count_at_lem p0 m0 _ (mod_count s c) (mod-small s c) (d.count ∙ ap (λ p. (m0 + p) % 16) place-now)

  -- all of its matches have acted
  all_shown : (j : ℕ) → c ≤ j → j ≤ end → pin s j ≡ bit_of (channel_control s j) 15 → pin s j ≡ shown_at p0 m0 (source j) m o.steps
  unfolding shown_at
  all_shown j a b q =
      q ∙ ap (λ x. bit_of x 15) (d.pattern j a b ∙ (λ i. rotated_right (d.same j a b i) (count-now i)))

  -- the step before
  stepped : (n : ℕ) → o.steps ≡ suc n → (u : Outcome) → decides_at n (walked n m) ≡ u → back_count (channel s c).way (mod_count s c) ≡ count_at p0 m0 (walked n m).position
  unfolding walked went_on moved
  stepped n e Arrived q = absurd (o.under-way n (omega arith) q)
  stepped n e (Step w k) q =
      let z : walked o.steps m ≡ moved w k (walked n m) = ap (λ i. walked i m) e ∙ ap (λ u. went_on u (walked n m)) q in
      ap (λ x. back_count x (mod_count s c)) (way_now ∙ ap (λ (y : Motor). y.way) z)
      ∙ back_at w p0 m0 (walked n m).position (mod_count s c) (mod-small s c) (d.count ∙ ap (λ p. (m0 + p) % 16) (place-now ∙ ap (λ (y : Motor). y.position) z))

  one_less : (j : ℕ) → c ≤ j → j ≤ end → (n : ℕ) → o.steps ≡ n → 1 ≤ n → is_armed (channel s c).phase ≡ true → pin s j ≡ shown_at p0 m0 (source j) m (n - 1)
  unfolding shown_at
  one_less j a b zero e h g = absurd (omega arith)
  one_less j a b (suc n) e h g =
      let k : suc n - 1 ≡ n = omega arith in
      d.before j a b g ∙ ap (λ x. bit_of (rotated_right (source j) x) 15) (stepped n e (decides_at n (walked n m)) refl ∙ ap (λ i. count_at p0 m0 (walked i m).position) (sym k))

  by-phase : (j : ℕ) → c ≤ j → j ≤ end → (p : Phase) → (channel s c).phase ≡ p → Seen p (part c j s) → Stands c0 c1 m f e o.steps p → pin s j ≡ shown_at p0 m0 (source j) m (acted o.steps p)
  unfolding Seen part Stands acted channel_control is_armed
  by-phase j a b Resting g q x = all_shown j a b q
  by-phase j a b Requested g q x = absurd x
  by-phase j a b (Armed t) g q x = one_less j a b o.steps refl x.1 (ap is_armed g)
  by-phase j a b (Matched t m) g q x = all_shown j a b q

  pin-now : (j : ℕ) → c ≤ j → j ≤ end → pin s j ≡ shown_at p0 m0 (source j) m (acted o.steps (channel s c).phase)
  unfolding view view_in group_in look
  pin-now j a b = by-phase j a b (channel s c).phase refl (d.seen j a b) o.phase

  -- nothing is pending but a match
  match-only : is_matched (channel s c).phase ≡ false → pending (view s c).group.phase ≡ false
  unfolding view view_in group_in look
  match-only g = only c0 c1 f e o.steps m (channel s c).phase g o.phase

-- ---- two of them

module _ (c p0 m0 end : ℕ) (source source' : ℕ → ℕ) (sources : (j : ℕ) → c ≤ j → j ≤ end → source j ≡ source' j) (s t : State) (d : Drawn c p0 m0 end source s) (k : Drawn c p0 m0 end source' t) (c0 c1 f f' e : ℕ) where
  -- on one schedule
  one-schedule : (m : Motor) → Valid m → m.rate ≡ 1 → 128 ≤ period c0 c1 m.top → OnSchedule c0 c1 m f e (view s c).group → OnSchedule c0 c1 m f' e (view t c).group → Agree c s t end
  unfolding view view_in group_in look position next_rate shown_at
  one-schedule m v r l o u =
      let both = schedules.same c0 c1 m f f' e (view s c).group (view t c).group v r l o u in
      let motors : is_matched (channel s c).phase ≡ false → is_matched (channel t c).phase ≡ false → (view s c).group.motor ≡ (view t c).group.motor = λ x y. both.1 (match-only c p0 m0 end source s d c0 c1 f e m o x) (match-only c p0 m0 end source' t k c0 c1 f' e m u y) in
      record {
        pins = λ j a b. pin-now c p0 m0 end source s d c0 c1 f e m o j a b ∙ (λ i. shown_at p0 m0 (sources j a b i) m (both.0 i)) ∙ sym (pin-now c p0 m0 end source' t k c0 c1 f' e m u j a b);
        position = λ x y. ap (λ (z : Motor). z.position) (motors x y);
        count = λ x y. count_at_lem p0 m0 _ (mod_count s c) (mod-small s c) d.count ∙ ap (λ (z : Motor). count_at p0 m0 z.position) (motors x y) ∙ sym (count_at_lem p0 m0 _ (mod_count t c) (mod-small t c) k.count);
        rate = λ x y. ap (λ (z : Motor). z.rate) (motors x y);
      }

  -- at its target from the beginning
  no_step : (m : Motor) (v : Way) → on_request m ≡ Arrived → OnSchedule c0 c1 m f e (view s c).group → OnSchedule c0 c1 (facing v m) f' e (view t c).group → Agree c s t end
  unfolding view view_in group_in look position next_rate shown_at walked decides_at
  no_step m v a o u =
      let x : (o.steps ≡ 0) × (acted o.steps (channel s c).phase ≡ 0) = none_made c0 c1 f e o.steps m (channel s c).phase a o.under-way o.phase in
      let y : (u.steps ≡ 0) × (acted u.steps (channel t c).phase ≡ 0) = none_made c0 c1 f' e u.steps (facing v m) (channel t c).phase (request-faced v m ∙ a) u.under-way u.phase in
      let p : (view s c).group.motor ≡ m = o.motor ∙ ap (λ n. walked n m) x.0 in
      let q : (view t c).group.motor ≡ facing v m = u.motor ∙ ap (λ n. walked n (facing v m)) y.0 in
      let places : position s c ≡ position t c = ap (λ (z : Motor). z.position) p ∙ sym (ap (λ (z : Motor). z.position) q) in
      record {
        pins = λ j b l. pin-now c p0 m0 end source s d c0 c1 f e m o j b l ∙ ap (shown_at p0 m0 (source j) m) x.1 ∙ ap (λ z. shown_at p0 m0 z (facing v m) 0) (sources j b l) ∙ sym (ap (shown_at p0 m0 (source' j) (facing v m)) y.1) ∙ sym (pin-now c p0 m0 end source' t k c0 c1 f' e (facing v m) u j b l);
        position = λ g h. places;
        count = λ g h. count_at_lem p0 m0 _ (mod_count s c) (mod-small s c) d.count ∙ ap (count_at p0 m0) places ∙ sym (count_at_lem p0 m0 _ (mod_count t c) (mod-small t c) k.count);
        rate = λ g h. ap (λ (z : Motor). z.rate) p ∙ sym (ap (λ (z : Motor). z.rate) q);
      }

  pub together : (m : Motor) (v : Way) → Valid m → m.rate ≡ 1 → 128 ≤ period c0 c1 m.top → OnSchedule c0 c1 m f e (view s c).group → OnSchedule c0 c1 (facing v m) f' e (view t c).group → Agree c s t end
  together m v w r l o u = by (on_request m) refl
    where
      by : (x : Outcome) → on_request m ≡ x → Agree c s t end
      by Arrived a = no_step m v a o u
      by (Step y n) a = one-schedule m w r l o (faced v m y n a c0 c1 f' e (view t c).group u)
