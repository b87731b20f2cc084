-- The ways through a tick, walked once: what stays through each thing that a match and a service do stays through the tick.
use Prim.Native.Nat.{ℕ, zero, suc, ◌+◌, ◌≤◌, ◌<◌}
use native.Mathlib.Omega.{arith}
use native.Mathlib.Nat.{eq-or-lt_of_le}
use mathlib.Core.Bool.{Bool, true, false}
use mathlib.Core.Path.{◌≡◌, refl, sym, subst}
use mathlib.Core.Logic.{◌≢◌, ◌⊎◌, inl, inr, ⊎_elim}
use lib.Dec.{eqb}
use borrow.Author.Tests.{eqb-true, eqb-false}
use Rattle.std.specs.Prelude.{Option, Some, None}
use Rattle.words.specs.Clock.{due}
use Rattle.words.proofs.ChoiceLaws.{pick-cases}
use Rattle.slots.specs.declared.Slots.{Slots}
use Rattle.slots.specs.declared.Service.{Service}
use Rattle.slots.specs.Slots.{to_channel}
use Rattle.slots.specs.Claims.{goes_to, leaves}
use Rattle.slots.proofs.Within.{one-service}
use Rattle.motor.specs.declared.Phase.{Phase}
use Rattle.motor.specs.declared.Phase.TheVariants.{Resting, Requested, Armed, Matched}
use Rattle.motor.specs.declared.Outcome.{Outcome}
use Rattle.motor.specs.Group.{bound}
use Rattle.unit.specs.declared.State.{State}
use Rattle.unit.specs.TheUnit.{each, request, with_request, with_slots, channel, with_phase, with_late, time_for, stepping}
use Rattle.unit.specs.Stepping.{pins_out, outcome}
use Rattle.unit.specs.OneTick.{match_of, matched, initialise, step_request, request_served, match_served, served, slot_served, matches, service_in, tick}
use Rattle.unit.specs.Pending.{asks_of}

-- a loop over channels
pub walk-each : (P : State → Type 0) (n a : ℕ) (f : ℕ → State → State) → ((j : ℕ) (s : State) → a ≤ j → j < a + n → P s → P (f j s)) → (s : State) → P s → P (each n a f s)
unfolding each
walk-each P zero a f h s p = p
walk-each P (suc n) a f h s p = h (a + n) (each n a f s) (omega arith) (omega arith) (walk-each P n a f (λ j t x y. h j t x (omega arith)) s p)

-- one in which the turn of c makes Q of P, and the others leave both
pub walk-hits : (P Q : State → Type 0) (c n a : ℕ) (f : ℕ → State → State) → a ≤ c → c < a + n
    → ((j : ℕ) (s : State) → j < a + n → c ≢ j → P s → P (f j s)) → ((s : State) → P s → Q (f c s)) → ((j : ℕ) (s : State) → j < a + n → c ≢ j → Q s → Q (f j s))
    → (s : State) → P s → Q (each n a f s)
unfolding each
walk-hits P Q c zero a f x y before turns after s p = absurd (omega arith)
walk-hits P Q c (suc n) a f x y before turns after s p =
    let t : State = each n a f s in
    let m : c ≤ a + n = omega arith in
    ⊎_elim (λ q. subst (λ j. Q (f j t)) q (turns t (walk-each P n a f (λ j u v w. before j u (omega arith) (omega arith)) s p)))
    (λ q. after (a + n) t (omega arith) (omega arith) (walk-hits P Q c n a f x q (λ j u v. before j u (omega arith)) turns (λ j u v. after j u (omega arith)) s p))
    (eq-or-lt_of_le m)

awake : (c : ℕ) (s : State) (x : Phase) → (channel s c).phase ≡ x → bound x ≡ true → stepping s c ≡ true
unfolding stepping
awake c s x e b = subst (λ y. bound y ≡ true) (sym e) b

-- a match, which acts in a group under way
pub walk-matched : (P : State → Type 0) (c : ℕ) (s : State)
    → (stepping s c ≡ true → (time : ℕ) → P (with_phase (pins_out s c) c (channel s c).way (Matched (time_for s c) time))) → P s → P (matched c s)
unfolding matched match_of bound
walk-matched P c s acts p = by (channel s c).phase refl
  where
    by : (x : Phase) → (channel s c).phase ≡ x → P (match_of x c s)
    by Resting e = p
    by Requested e = p
    by (Armed time) e = pick-cases P (due (time_for s c) time) (λ a. acts (awake c s (Armed time) e refl) time) (λ a. p)
    by (Matched captured time) e = p

-- P stays through all that the service of c does which begins in s. A group moves that was asked to step, or was under way, as it began.
pub record Serves (P : State → Type 0) (c : ℕ) (s : State) : Type 0 where
  pub clears : P (with_request s c 0)
  pub passes : request s c ≢ 2 → request s c ≢ 3 → P s
  pub sets-up : (t : State) → request s c ≡ 2 → P t → P (initialise c t)
  pub moves : (t : State) (reference : ℕ) (o : Outcome) → (request s c ≡ 3) ⊎ (stepping s c ≡ true) → P t → P (outcome t c reference o)
  pub tells : (t : State) (n : ℕ) → P t → P (with_late t c n)

module _ (P : State → Type 0) (c : ℕ) (s : State) (k : Serves P c s) where
  pub walk-request_served : P (request_served c s)
  unfolding request_served step_request
  walk-request_served =
      pick-cases P (eqb (request s c) 2) (λ a. k.sets-up _ (eqb-true (request s c) 2 a) k.clears)
      (λ a. pick-cases P (eqb (request s c) 3) (λ b. by (channel s c).phase (eqb-true (request s c) 3 b)) (λ b. k.passes (eqb-false (request s c) 2 a) (eqb-false (request s c) 3 b)))
    where
      by : (x : Phase) → request s c ≡ 3 → P (step_request x c (with_request s c 0))
      by Resting e = k.moves _ _ _ (inl e) k.clears
      by Requested e = k.moves _ _ _ (inl e) k.clears
      by (Armed time) e = k.clears
      by (Matched captured time) e = k.clears

  pub walk-served : P (served c s)
  unfolding served match_served bound
  walk-served = by (channel s c).phase refl
    where
      by : (x : Phase) → (channel s c).phase ≡ x → P (match_served x c (request_served c s))
      by Resting e = walk-request_served
      by Requested e = walk-request_served
      by (Armed time) e = walk-request_served
      by (Matched captured time) e = k.moves _ captured _ (inr (awake c s (Matched captured time) e refl)) (k.tells _ _ walk-request_served)

-- whom a slot goes to is one of sixteen
served-small : (s : State) (c : ℕ) (t : Slots) → service_in s ≡ to_channel c t → c < 16
unfolding service_in
served-small s c t e = one-service.sixteen (matches s).slots t (asks_of (matches s)) c e

-- the slot of a tick, which goes to nobody or to one channel
pub walk-slot : (P : Option Service → State → Type 0) (s : State) → P None (matches s) → ((c : ℕ) (u : Slots) → c < 16 → P (to_channel c u) (served c (with_slots (matches s) u))) → P (service_in s) (tick s)
unfolding tick slot_served
walk-slot P s none one = by (service_in s) refl
  where
    by : (v : Option Service) → service_in s ≡ v → P v (slot_served v (matches s))
    by (Some v) e = one v.channel v.slots (served-small s v.channel v.slots e)
    by None e = none

-- for one channel: whether the slot is its own, and how the slots stand after it
pub walk-own : (P : Bool → Slots → State → Type 0) (c : ℕ) (s : State) → P false (matches s).slots (matches s)
    → ((u : Slots) → P true u (served c (with_slots (matches s) u)))
    → ((d : ℕ) (u : Slots) → d < 16 → c ≢ d → P false u (served d (with_slots (matches s) u)))
    → P (goes_to c (service_in s)) (leaves (matches s).slots (service_in s)) (tick s)
unfolding goes_to leaves
walk-own P c s none own other = walk-slot (λ v t. P (goes_to c v) (leaves (matches s).slots v) t) s none (λ d u l. by d u l (eqb c d) refl)
  where
    by : (d : ℕ) (u : Slots) → d < 16 → (b : Bool) → eqb c d ≡ b → P b u (served d (with_slots (matches s) u))
    by d u l true e = subst (λ j. P true u (served j (with_slots (matches s) u))) (eqb-true c d e) (own u)
    by d u l false e = other d u l (eqb-false c d e)
