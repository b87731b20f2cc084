-- One write of a setting while every channel is free: it is taken.
use Rattle.std.proofs.Common.{Ok}
use Prim.Native.Nat.{ℕ, zero, suc, ◌+◌, ◌-◌, ◌*◌, ◌%◌, ◌≤◌, ◌<◌}
use native.Mathlib.Omega.{arith}
use mathlib.Core.Bool.{Bool, true, false, ◌&&◌}
use mathlib.Core.Path.{◌≡◌, refl}
use mathlib.Core.Logic.{◌≢◌}
use lib.Dec.{eqb, leb}
use borrow.Author.Tests.{eqb-true, leb-true}
use Rattle.words.specs.Choice.{ask}
use Rattle.words.specs.Field.{field}
use Rattle.words.proofs.ChoiceLaws.{pick-cases, fails, not-both, and_left, and_right}
use Rattle.unit.specs.declared.State.{State}
use Rattle.unit.specs.declared.Place.{Place}
use Rattle.unit.specs.declared.Place.TheVariants.{AtRegister, AtWord, AtLate, Nowhere}
use Rattle.unit.specs.declared.Deed.{Deed}
use Rattle.unit.specs.declared.Deed.TheVariants.{Nothing, Parameter, Register}
use Rattle.unit.specs.Refusals.{Verdict}
use Rattle.unit.specs.TheUnit.{all, any, cisr, hsrr_of, function, request, exists, stepping, reaches, is_bound}
use Rattle.unit.specs.Gate.{place, is_free, keeps_or_free, ask_register, ask_word, ask_place, done}
use Rattle.unit.specs.Calls.{answered_by, write_of}
use Rattle.unit.proofs.Places.{gate-place}
use Rattle.unit.proofs.Tests.{or_right, or-none, any_some, Found}
use Rattle.history.proofs.Held.{still-reach, is_free_lem}
use Rattle.board.specs.Loads.{is_setting_register, AllFree}
use Rattle.board.proofs.AddressLaws.{register-cases, Settled}

-- ---- every channel is free

-- no motor is under way and no request is pending
unfoldable pub Still : State → Type 0
Still s = (c : ℕ) → c < 16 → (stepping s c ≡ false) × (request s c ≡ 0)

pub free-still : (s : State) → AllFree s → Still s
unfolding AllFree Still is_bound request hsrr_of
free-still s f c h = ((or-none (stepping s c) _ (f c h).unbound).0, (f c h).none)

unreached : (s : State) (c : ℕ) → Still s → any 16 0 (reaches s c) ≡ false
unfolding Still
unreached s c f =
    fails (any 16 0 (reaches s c))
    (λ t. let x : Found (reaches s c) 16 0 = any_some (reaches s c) 16 0 t in
    not-both x.yes (still-reach s c x.place (f x.place (omega (arith, x.below))).0))

each_free : (s : State) (c : ℕ) → Still s → c < 16 → is_free s c ≡ true
unfolding Still is_bound
each_free s c f h = is_free_lem c s (rw (f c h).0 (unreached s c f)) (f c h).1

all_hold : (f : ℕ → Bool) (n a : ℕ) → ((p : ℕ) → p < a + n → f p ≡ true) → all n a f ≡ true
unfolding all
all_hold f zero a h = refl
all_hold f (suc n) a h = rw (all_hold f n a (λ p l. h p (omega arith))) (h (a + n) (omega arith))

-- ---- the write is taken

-- what a write of v there does
unfoldable pub deed_at : Place → ℕ → Deed
deed_at (AtRegister i) v = Register i v
deed_at (AtWord c i) v = Parameter (8 * c + i) v
deed_at (AtLate k) v = Nothing
deed_at Nowhere v = Nothing

-- the state with v at a place of the settings
unfoldable pub put : Place → ℕ → State → State
put p v s = done (deed_at p v) s

functions-free : (s : State) (i v : ℕ) → Still s → 1 ≤ i → all 4 (4 * (4 - i)) (keeps_or_free s v) ≡ true
unfolding keeps_or_free
functions-free s i v f h =
    all_hold (keeps_or_free s v) 4 (4 * (4 - i))
    (λ p l. or_right (eqb (field 4 v (4 * (p % 4))) (function s p)) (is_free s p) (each_free s p f (omega arith)))

-- a setting register is neither CISR nor HSRR
not-status : (i : ℕ) → is_setting_register i ≡ true → i ≢ cisr
not-status i e q = register-cases ⊥ i e (λ h l. omega arith) (λ h l. omega arith)

pub not-requests : (i : ℕ) → is_setting_register i ≡ true → 7 ≤ i → i ≤ 8 → ⊥
not-requests i e a b = register-cases ⊥ i e (λ h l. omega arith) (λ h l. omega arith)

register-taken : (s : State) (i v : ℕ) → Still s → is_setting_register i ≡ true → ask_register s i v ≡ Ok (Register i v)
unfolding ask_register ask
register-taken s i v f e =
    let P : Verdict → Type 0 = λ k. k ≡ Ok (Register i v) in
    pick-cases P (eqb i cisr) (λ t. absurd (not-status i e (eqb-true i cisr t)))
    (λ t. pick-cases P (leb 1 i && leb i 4) (λ u. rw (functions-free s i v f (leb-true 1 i (and_left (leb 1 i) (leb i 4) u))))
    (λ u. pick-cases P (leb 7 i && leb i 8)
    (λ w. absurd (not-requests i e (leb-true 7 i (and_left (leb 7 i) (leb i 8) w)) (leb-true i 8 (and_right (leb 7 i) (leb i 8) w)))) (λ w. refl)))

word-taken : (s : State) (c i v : ℕ) → Still s → c < 16 → exists c i ≡ true → ask_word s c i v ≡ Ok (Parameter (8 * c + i) v)
unfolding ask_word ask Still
word-taken s c i v f h e =
    rw (e, each_free s c f h)
    (pick-cases (λ k. k ≡ Ok (Parameter (8 * c + i) v)) (eqb i 3 && stepping s c)
    (λ t. absurd (not-both (and_right (eqb i 3) (stepping s c) t) (f c h).0)) (λ t. refl))

place-taken : (s : State) (p : Place) (v : ℕ) → Still s → Settled p → ask_place s p v ≡ Ok (deed_at p v)
unfolding ask_place deed_at Settled
place-taken s (AtRegister i) v f x = register-taken s i v f x
place-taken s (AtWord c i) v f x = word-taken s c i v f x.0 x.2
place-taken s (AtLate k) v f x = absurd x
place-taken s Nowhere v f x = absurd x

pub write-taken : (s : State) (a v : ℕ) → Still s → Settled (place a) → write_of s a v ≡ record { answer = Ok tt; state = put (place a) v s }
unfolding write_of answered_by put
write-taken s a v f x = rw (gate-place s a v, place-taken s (place a) v f x)
