-- The answers in numbers, and the question that is put for all channels.
use Prim.Native.Nat.{ℕ, zero, suc, ◌+◌, ◌<◌}
use native.Mathlib.Omega.{arith}
use mathlib.Core.Bool.{Bool, true, false, not}
use mathlib.Core.List.{List}
use mathlib.Core.Path.{◌≡◌, refl}
use borrow.Author.Tests.{eq-eqb, eqb-true}
use Rattle.words.specs.Choice.{pick, ask}
use Rattle.words.proofs.ChoiceLaws.{and_left, and_right}
use Rattle.unit.specs.declared.State.{State}
use Rattle.unit.specs.TheUnit.{all, hsrr_of, request, is_bound}
use Rattle.unit.specs.Gate.{is_free}
use Rattle.unit.specs.Takes.{Free}
use Rattle.unit.proofs.Tests.{not_yes, all_yes}
use Rattle.keeping.specs.declared.Refusal.{Refusal}
use Rattle.keeping.specs.declared.Refusal.TheVariants.{NoVersion}
use Rattle.std.proofs.Common.{Result, Ok, Err}
use Rattle.keeping.specs.declared.Which.{Which}
use Rattle.keeping.specs.declared.Loaded.{Loaded}
use Rattle.keeping.specs.Keeping.{refusal_number, number_of, version_of, may_save, save_of, save_number, save_version, chosen, all_free, load_from, load_of, load_number, load_version}

-- ---- numbers

save-number : (q : Bool) (v : ℕ) → number_of (pick q (Ok v) (Err NoVersion)) ≡ pick q 0 12
unfolding number_of
save-number true v = refl
save-number false v = refl

save-version : (q : Bool) (v : ℕ) → version_of (pick q (Ok v) (Err NoVersion)) ≡ pick q v 0
unfolding version_of
save-version true v = refl
save-version false v = refl

pub save-numbers : (b : List ℕ) (r : Result ℕ Refusal) → r ≡ save_of b → (number_of r ≡ save_number b) × (version_of r ≡ save_version b)
unfolding save_of save_number save_version
save-numbers b r e = rw e (save-number (may_save b) _, save-version (may_save b) _)

asked-number : (q : Bool) (s t : State) (v : ℕ) (r : Refusal)
    → number_of (ask {A = Loaded} q record { answer = Err r; state = s } record { answer = Ok v; state = t }).answer ≡ pick q 0 (refusal_number r)
unfolding ask number_of
asked-number true s t v r = refl
asked-number false s t v r = refl

asked-version : (q : Bool) (s t : State) (v : ℕ) (r : Refusal)
    → version_of (ask {A = Loaded} q record { answer = Err r; state = s } record { answer = Ok v; state = t }).answer ≡ pick q v 0
unfolding ask version_of
asked-version true s t v r = refl
asked-version false s t v r = refl

from-number : (s : State) (b : List ℕ) (x : Result ℕ Refusal) → number_of (load_from s b x).answer ≡ load_number s x
unfolding number_of load_from load_number
from-number s b (Err r) = refl
from-number s b (Ok k) = asked-number (all_free s) s _ _ _

from-version : (s : State) (b : List ℕ) (x : Result ℕ Refusal) → version_of (load_from s b x).answer ≡ load_version s b x
unfolding version_of load_from load_version
from-version s b (Err r) = refl
from-version s b (Ok k) = asked-version (all_free s) s _ _ _

pub load-numbers : (s : State) (w : Which) (b : List ℕ) (r : Loaded) → r ≡ load_of s w b
    → (number_of r.answer ≡ load_number s (chosen b w)) × (version_of r.answer ≡ load_version s b (chosen b w))
unfolding load_of
load-numbers s w b r e = rw e (from-number s b (chosen b w), from-version s b (chosen b w))

-- ---- all channels are free

free-is : (s : State) (c : ℕ) → is_free s c ≡ true → Free c s
unfolding is_free request hsrr_of
free-is s c e =
    record { unbound = not_yes (is_bound s c) (and_left (not (is_bound s c)) _ e); none = eqb-true _ 0 (and_right (not (is_bound s c)) _ e) }

is_free_lem : (s : State) (c : ℕ) → Free c s → is_free s c ≡ true
unfolding is_free request hsrr_of
is_free_lem s c x = rw x.unbound (eq-eqb _ 0 x.none)

all_hold : (f : ℕ → Bool) (n : ℕ) → ((p : ℕ) → p < n → f p ≡ true) → all n 0 f ≡ true
unfolding all
all_hold f zero h = refl
all_hold f (suc n) h =
    let z : 0 + n ≡ n = omega arith in
    rw (all_hold f n (λ p l. h p (omega arith)), z) (h n (omega arith))

-- the question has a yes just where no channel below 16 is bound or has a field other than 00 in HSRR
pub all-free : (s : State) → all_free s ≡ true → (c : ℕ) → c < 16 → Free c s
unfolding all_free
all-free s e c h = free-is s c (all_yes (is_free s) c 16 0 (omega arith) h e)

pub free_all : (s : State) → ((c : ℕ) → c < 16 → Free c s) → all_free s ≡ true
unfolding all_free
free_all s f = all_hold (is_free s) 16 (λ c h. is_free_lem s c (f c h))
