-- What a service that makes a step has decided, in numbers: which way, and at which next rate.
use Prim.Native.Nat.{ℕ, ◌≤◌}
use native.Mathlib.Omega.{arith}
use mathlib.Core.Path.{◌≡◌, refl, subst}
use mathlib.Core.Logic.{◌≢◌, ◌⊎◌, inl, inr, ⊎_elim}
use lib.Dec.{ltb, leb, eqb}
use borrow.Author.Tests.{eqb-false}
use Rattle.std.specs.Prelude.{Option, Some, None}
use Rattle.words.proofs.ChoiceLaws.{pick-cases, tests}
use Rattle.motor.specs.declared.Way.{Way}
use Rattle.motor.specs.declared.Way.TheVariants.{Right, Left}
use Rattle.motor.specs.declared.Motor.{Motor}
use Rattle.motor.specs.declared.Outcome.{Outcome}
use Rattle.motor.specs.declared.Outcome.TheVariants.{Arrived, Step}
use Rattle.motor.specs.Stepping.{ahead, accelerates, choice, steps, test, turn, on_request, on_match}
use Rattle.motor.specs.SlowMoves.{Pace}
use Rattle.motor.proofs.SlowMoves.{choice-pace}

-- a turn that steps has places ahead or a rate to slow down from
onward-why : (d top k j : ℕ) → choice d top k ≡ Some j → (1 ≤ d) ⊎ (2 ≤ k)
unfolding choice accelerates
onward-why d top k j =
    pick-cases P (accelerates d top) (λ a e. inl (omega (arith, tests)))
    (λ a. pick-cases P (leb k 1)
    (λ b. pick-cases P (ltb 0 d) (λ t e. inl (omega (arith, tests))) (λ t e. absurd (back e)))
    (λ b e. inr (omega (arith, tests))))
  where
    P : Option ℕ → Type 0
    P c = c ≡ Some j → (1 ≤ d) ⊎ (2 ≤ k)

    back : None ≡ Some j → ⊥
    back e = let z : ◌≡◌ {A = ℕ} 0 1 = cc in omega arith

-- one that goes back to the test is at rate 1, with the target not ahead
back-why : (d top k : ℕ) → choice d top k ≡ None → (d ≡ 0) × (k ≤ 1)
unfolding choice accelerates
back-why d top k =
    pick-cases P (accelerates d top) (λ a. pick-cases P (ltb k top) (λ b. on) (λ b. on))
    (λ a. pick-cases P (leb k 1) (λ b. pick-cases P (ltb 0 d) (λ t. on) (λ t e. (omega (arith, tests), omega (arith, tests)))) (λ b. on))
  where
    P : Option ℕ → Type 0
    P c = c ≡ None → (d ≡ 0) × (k ≤ 1)

    on : {i : ℕ} → P (Some i)
    on e = absurd (let z : ◌≡◌ {A = ℕ} 0 1 = cc in omega arith)

-- a step of a turn is the turn's own, or that of what follows it
turn-splits : (w v : Way) (j : ℕ) (c : Option ℕ) (back : Outcome) → steps w c back ≡ Step v j → ((w ≡ v) × (c ≡ Some j)) ⊎ ((c ≡ None) × (back ≡ Step v j))
turn-splits w v j (Some k) back e = inl (cc, cc)
turn-splits w v j None back e = inr (refl, e)

-- the step of a turn that has nothing behind it
last_turn : (w v : Way) (m : Motor) (j : ℕ) → turn 1 w m ≡ Step v j → (w ≡ v) × (choice (ahead w m) m.top m.rate ≡ Some j)
unfolding turn test
last_turn w v m j e =
    ⊎_elim (λ x. x) (λ x. absurd (none x.1)) (turn-splits w v j (choice (ahead w m) m.top m.rate) Arrived e)
  where
    none : Arrived ≡ Step v j → ⊥
    none q = let z : ◌≡◌ {A = ℕ} 0 1 = cc in omega arith

-- what the test decides: towards the target, and by the turn that way
record Towards (w : Way) (m : Motor) (j : ℕ) : Type 0 where
  some : 1 ≤ ahead w m
  choice : choice (ahead w m) m.top m.rate ≡ Some j

towards : (w v : Way) (m : Motor) (j : ℕ) → 1 ≤ ahead w m → turn 1 w m ≡ Step v j → Towards v m j
towards w v m j a e =
    let x = last_turn w v m j e in
    subst (λ (y : Way). Towards y m j) x.0 record { some = a; choice = x.1 }

test-why : (w : Way) (m : Motor) (j : ℕ) → test 2 m ≡ Step w j → Towards w m j
unfolding test ahead towards
test-why w m j =
    pick-cases P (eqb m.target m.position) (λ a. none)
    (λ a. let n : m.target ≢ m.position = eqb-false m.target m.position a in
    pick-cases P (ltb m.position m.target)
    (λ b. towards Right w m j (omega (arith, tests)))
    (λ b. towards Left w m j (omega (arith, tests))))
  where
    P : Outcome → Type 0
    P o = o ≡ Step w j → Towards w m j

    none : P Arrived
    none e = absurd (let z : ◌≡◌ {A = ℕ} 0 1 = cc in omega arith)

-- ---- by a request, and on a match

pub request-decides : (w : Way) (m : Motor) (j : ℕ) → 1 ≤ m.rate → on_request m ≡ Step w j → (1 ≤ ahead w m) × Pace m.top (ahead w m) m.rate j
unfolding on_request
request-decides w m j l e =
    let x = test-why w m j e in
    (x.some, choice-pace (ahead w m) m.top m.rate j l x.choice)

abbrev pub Continues : Way → Motor → Type 0
Continues w m = ((m.way ≡ w) × ((1 ≤ ahead w m) ⊎ (2 ≤ m.rate))) ⊎ ((m.way ≢ w) × (m.rate ≡ 1) × (1 ≤ ahead w m))

pub match-decides : (w : Way) (m : Motor) (j : ℕ) → 1 ≤ m.rate → on_match m ≡ Step w j → Continues w m × Pace m.top (ahead w m) m.rate j
unfolding on_match turn
match-decides w m j l e =
    ⊎_elim
    (λ x. let q : choice (ahead w m) m.top m.rate ≡ Some j = subst (λ (y : Way). choice (ahead y m) m.top m.rate ≡ Some j) x.0 x.1 in
    (inl (x.0, onward-why (ahead w m) m.top m.rate j q), choice-pace (ahead w m) m.top m.rate j l q))
    (λ x. let y : Towards w m j = test-why w m j x.1 in
    let b = back-why (ahead m.way m) m.top m.rate x.0 in
    (inr (other b.0 y.some, omega (arith, b.1), y.some), choice-pace (ahead w m) m.top m.rate j l y.choice))
    (turn-splits m.way w j (choice (ahead m.way m) m.top m.rate) (test 2 m) e)
  where
    other : ahead m.way m ≡ 0 → 1 ≤ ahead w m → m.way ≢ w
    other z a q = let f : ahead w m ≡ 0 = subst (λ (y : Way). ahead y m ≡ 0) q z in omega arith
