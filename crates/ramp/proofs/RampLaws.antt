-- The claim `Ramps`.
use Prim.Native.Nat.{ℕ, ◌+◌, ◌-◌, ◌*◌, ◌≤◌, ◌<◌}
use mathlib.Core.Path.{◌≡◌, refl, sym, ap, ◌∙◌}
use mathlib.Core.Bool.{true, false}
use native.Mathlib.Nat.{zero-mul, mul-add, add-mul, mul_assoc}
use native.Mathlib.Omega.{arith}
use lib.Ieee.{Float}
use Rattle.words.specs.Choice.{pick}
use Rattle.motor.specs.Stepping.{period}
use Rattle.unit.specs.Gate.{ramp_good}
use Rattle.std.specs.Prelude.{Some, Ok, Err}
use Rattle.sheet.specs.Numbers.{period_count, speed_count}
use Rattle.sheet.proofs.NumberLaws.{takes}
use Rattle.sheet.proofs.Order.{faster}
use Rattle.ramp.specs.declared.Ramp.{Ramp}
use Rattle.ramp.specs.declared.Ramp.TheVariants.{Periods, Speeds}
use Rattle.ramp.specs.Sheet.{Answer, taken_with, refused, number_of, cntl0_of, cntl1_of, counts_of}
use Rattle.ramp.specs.Claims.{WordsRun, MayRun, Runs, Ramps}
use Rattle.ramp.proofs.CountLaws.{question-8}
use Rattle.ramp.proofs.TakenLaws.{Fine, counts-fine, ramp-takes}

-- ---- how a ramp that may run does run

first-period : (n p cntl0 cntl1 : ℕ) → WordsRun n p cntl0 cntl1 → p ≡ period cntl0 cntl1 1
unfolding period
first-period n p cntl0 cntl1 w = omega (arith, w.sum)

-- P(n) for a rounded slope m = n - 1 times, and the count q that was asked for
near : (p q n cntl0 cntl1 : ℕ) → q ≤ p → 2 ≤ n → 2 * cntl0 * (n - 1) ≤ 2 * (p - q) + (n - 1) → 2 * (p - q) + (n - 1) < 2 * (cntl0 + 1) * (n - 1) → WordsRun n p cntl0 cntl1 → (2 * q ≤ 2 * period cntl0 cntl1 n + (n - 1)) × (2 * period cntl0 cntl1 n ≤ 2 * q + (n - 1))
unfolding period
near p q n cntl0 cntl1 o h a b w =
    let m = n - 1 in
    let e : 1 + n ≡ m + 2 = omega arith in
    let s = w.sum in
    let l = w.last in
    let x : cntl0 * (1 + n) ≡ cntl0 * m + cntl0 * 2 = rw e (mul-add cntl0 m 2) in
    let y : 2 * cntl0 * m ≡ 2 * (cntl0 * m) = mul_assoc 2 cntl0 m in
    let z : 2 * (cntl0 + 1) * m ≡ 2 * (cntl0 * m + 1 * m) = mul_assoc 2 (cntl0 + 1) m ∙ rw (add-mul cntl0 1 m) in
    (omega arith, omega arith)

runs : (ramp : Ramp) (tick : Float) (n cntl0 cntl1 : ℕ) → MayRun ramp tick n cntl0 cntl1 → Runs ramp tick n cntl0 cntl1
unfolding period_count speed_count
runs (Periods slow difference) tick n cntl0 cntl1 r =
    record { slowest = r.slowest.0 ∙ ap Some (first-period n r.p cntl0 cntl1 r.words); step = r.step.0 }
runs (Speeds slow fast) tick n cntl0 cntl1 r =
    record {
      slowest = r.slowest.0 ∙ ap Some (first-period n r.p cntl0 cntl1 r.words);
      one-rate = r.one-rate;
      last = r.q;
      fastest = r.fastest.0;
      near = λ h. near r.p r.q n cntl0 cntl1 in_order h (r.step h).0 (r.step h).1 r.words;
    }
  where
    in_order : r.q ≤ r.p
    in_order =
        let s = (takes.positive slow).1 r.slow-above in
        let f = (takes.positive fast).1 r.fast-above in
        let t = (takes.positive tick).1 r.tick-above in
        let o = (takes.speedup slow fast).1 r.in_order in
        faster slow fast tick s f t o r.p r.q r.slowest.0 r.fastest.0

asks-8 : (ramp : Ramp) (tick : Float) (n cntl0 cntl1 : ℕ) → MayRun ramp tick n cntl0 cntl1 → ramp_good cntl0 cntl1 n ≡ true
asks-8 (Periods slow difference) tick n cntl0 cntl1 r = (question-8 cntl0 cntl1 n).1 (r.words.last, r.words.first)
asks-8 (Speeds slow fast) tick n cntl0 cntl1 r = (question-8 cntl0 cntl1 n).1 (r.words.last, r.words.first)

-- ---- the answer in numbers

-- without words question 8 says no
pub no_words : (n : ℕ) → ramp_good 0 0 n ≡ false
unfolding ramp_good period
no_words n = rw (zero-mul (1 + n))

in-numbers : (x : Answer) (n : ℕ) → ((cntl0 cntl1 : ℕ) → x ≡ taken_with cntl0 cntl1 → ramp_good cntl0 cntl1 n ≡ true) → number_of x ≡ pick (ramp_good (cntl0_of x) (cntl1_of x) n) 0 11
in-numbers (Ok controls) n f = rw (f controls.step_cntl0 controls.step_cntl1 refl)
in-numbers (Err refusal) n f = rw (no_words n)

-- the number of what the call answers
pub answered : (x : Answer) (ramp : Ramp) (tick : Float) (n : ℕ) → x ≡ counts_of ramp tick n → number_of x ≡ pick (ramp_good (cntl0_of x) (cntl1_of x) n) 0 11
answered x ramp tick n e =
    in-numbers x n (λ cntl0 cntl1 h. asks-8 ramp tick n cntl0 cntl1 ((counts-fine ramp tick n).taken cntl0 cntl1 (sym e ∙ h)))

-- ---- the claim

refused-else : (x : Answer) → ((cntl0 cntl1 : ℕ) → x ≡ taken_with cntl0 cntl1 → ⊥) → x ≡ refused
refused-else (Ok controls) f = absurd (f controls.step_cntl0 controls.step_cntl1 refl)
refused-else (Err refusal) f = refl

module _ (ramp : Ramp) (tick : Float) (n : ℕ) where
  fine : Fine (MayRun ramp tick n) (counts_of ramp tick n)
  fine = counts-fine ramp tick n

  none : counts_of ramp tick n ≡ refused → (cntl0 cntl1 : ℕ) → MayRun ramp tick n cntl0 cntl1 → ⊥
  none e cntl0 cntl1 r = cc (ramp-takes ramp tick n cntl0 cntl1 r)

  refuses : ((cntl0 cntl1 : ℕ) → MayRun ramp tick n cntl0 cntl1 → ⊥) → counts_of ramp tick n ≡ refused
  refuses f = refused-else (counts_of ramp tick n) (λ cntl0 cntl1 e. f cntl0 cntl1 (fine.taken cntl0 cntl1 e))

pub ramps : Ramps
ramps =
    record {
      taken = λ ramp tick n cntl0 cntl1. ((fine ramp tick n).taken cntl0 cntl1, ramp-takes ramp tick n cntl0 cntl1);
      refused = λ ramp tick n. (none ramp tick n, refuses ramp tick n);
      eleven = λ ramp tick n refusal e. refl;
      runs = λ ramp tick n cntl0 cntl1 e.
          let r = (fine ramp tick n).taken cntl0 cntl1 e in
          (asks-8 ramp tick n cntl0 cntl1 r, runs ramp tick n cntl0 cntl1 r);
    }
