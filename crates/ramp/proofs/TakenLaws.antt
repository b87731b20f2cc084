-- A ramp is taken with two words exactly where it may run with them.
use Prim.Native.Nat.{ℕ, ◌+◌, ◌*◌, ◌≤◌}
use mathlib.Core.Path.{◌≡◌, refl, subst}
use mathlib.Core.Bool.{Bool, true}
use native.Mathlib.Omega.{arith}
use borrow.Author.Tests.{leb-true, le-leb}
use lib.Dec.{leb}
use lib.Ieee.{Float}
use Rattle.words.specs.Choice.{ask}
use Rattle.words.proofs.ChoiceLaws.{ask-cases}
use Rattle.unit.specs.Gate.{ramp_good}
use Rattle.std.specs.Prelude.{Option, Some, None}
use Rattle.nearest.proofs.NearestLaws.{nearest-whole}
use Rattle.sheet.specs.Numbers.{is_rate_count, is_positive, is_difference, is_speedup, period_count, speed_count}
use Rattle.sheet.proofs.NumberLaws.{takes}
use Rattle.ramp.specs.declared.Ramp.{Ramp}
use Rattle.ramp.specs.declared.Ramp.TheVariants.{Periods, Speeds}
use Rattle.ramp.specs.Sheet.{Answer, taken_with, refused, cntl0_of, cntl1_of, slope, words_of, steps_of, ends_of, periods_of, speeds_of, by_kind, counts_of}
use Rattle.ramp.specs.Claims.{WordsRun, PeriodsRun, SpeedsRun, MayRun}
use Rattle.ramp.proofs.CountLaws.{slope-falls, falls-slope, question-8}

-- ---- the words of a taken ramp have Q

pub record Fine (Q : ℕ → ℕ → Type 0) (x : Answer) : Type 0 where
  pub taken : (cntl0 cntl1 : ℕ) → x ≡ taken_with cntl0 cntl1 → Q cntl0 cntl1

module _ (Q : ℕ → ℕ → Type 0) where
  refuses : Fine Q refused
  refuses = record { taken = λ cntl0 cntl1 e. cc }

  yes : (cntl0 cntl1 : ℕ) → Q cntl0 cntl1 → Fine Q (taken_with cntl0 cntl1)
  yes cntl0 cntl1 h = record { taken = same }
    where
      same : (a b : ℕ) → taken_with cntl0 cntl1 ≡ taken_with a b → Q a b
      same a b e = subst (λ (x : Answer). Q (cntl0_of x) (cntl1_of x)) e h

  asked : (q : Bool) (rest : Answer) → (q ≡ true → Fine Q rest) → Fine Q (ask q refused rest)
  asked q rest f = ask-cases (Fine Q) q refused rest refuses f

-- a weaker fact of the same answer
weaker : (Q R : ℕ → ℕ → Type 0) (x : Answer) → ((cntl0 cntl1 : ℕ) → Q cntl0 cntl1 → R cntl0 cntl1) → Fine Q x → Fine R x
weaker Q R x f h = record { taken = λ cntl0 cntl1 e. f cntl0 cntl1 (h.taken cntl0 cntl1 e) }

-- ---- from the answer to the ramp: the counts first

module _ (n : ℕ) (rates : (1 ≤ n) × (n ≤ 14)) where
  -- what P(1) and STEP_CNTL0 come to
  abbrev Words : ℕ → ℕ → ℕ → ℕ → Type 0
  Words p d cntl0 cntl1 = (d ≡ cntl0) × WordsRun n p cntl0 cntl1

  words-fine : (p d : ℕ) → Fine (Words p d) (words_of p d n)
  unfolding words_of
  words-fine p d =
      asked Q _ _
      (λ l. asked Q (ramp_good d c n) _
      (λ g. let h = (question-8 d c n).0 g in
      yes Q d c (refl, record { rates = rates; sum = refl; word = omega (arith, leb-true c _ l); last = h.0; first = h.1 })))
    where
      c : ℕ
      c = p + 2 * d

      Q : ℕ → ℕ → Type 0
      Q = Words p d

  -- by the counts of the slowest period and of the difference
  pub record FromSteps (first difference : Option ℕ) (cntl0 cntl1 : ℕ) : Type 0 where
    pub p : ℕ
    pub slowest : (first ≡ Some p) × (1 ≤ p)
    pub step : difference ≡ Some cntl0
    pub words : WordsRun n p cntl0 cntl1

  steps-fine : (first difference : Option ℕ) → Fine (FromSteps first difference) (steps_of first difference n)
  unfolding steps_of
  steps-fine None difference = refuses (FromSteps None difference)
  steps-fine (Some p) None = refuses (FromSteps (Some p) None)
  steps-fine (Some p) (Some d) =
      asked (FromSteps (Some p) (Some d)) (leb 1 p) (words_of p d n)
      (λ l. weaker (Words p d) (FromSteps (Some p) (Some d)) (words_of p d n)
      (λ cntl0 cntl1 w. record { p = p; slowest = (refl, leb-true 1 p l); step = rw w.0; words = w.1 }) (words-fine p d))

  -- by the counts of the two periods
  pub record FromEnds (first last : Option ℕ) (cntl0 cntl1 : ℕ) : Type 0 where
    pub p : ℕ
    pub q : ℕ
    pub slowest : (first ≡ Some p) × (1 ≤ p)
    pub fastest : (last ≡ Some q) × (1 ≤ q)
    pub step : slope p q n ≡ cntl0
    pub words : WordsRun n p cntl0 cntl1

  ends-fine : (first last : Option ℕ) → Fine (FromEnds first last) (ends_of first last n)
  unfolding ends_of
  ends-fine None last = refuses (FromEnds None last)
  ends-fine (Some p) None = refuses (FromEnds (Some p) None)
  ends-fine (Some p) (Some q) =
      let c = slope p q n in
      let Q = FromEnds (Some p) (Some q) in
      asked Q (leb 1 p) _
      (λ l. asked Q (leb 1 q) (words_of p c n)
      (λ g. weaker (Words p c) Q (words_of p c n)
      (λ cntl0 cntl1 w. record { p = p; q = q; slowest = (refl, leb-true 1 p l); fastest = (refl, leb-true 1 q g); step = w.0; words = w.1 }) (words-fine p c)))

  module _ (tick : Float) (ticks : is_positive tick ≡ true) where
    periods-run : (slow difference : Float) → is_positive slow ≡ true → is_difference difference ≡ true → (cntl0 cntl1 : ℕ) → FromSteps (period_count slow tick) (period_count difference tick) cntl0 cntl1 → PeriodsRun slow difference tick n cntl0 cntl1
    unfolding period_count
    periods-run slow difference s d cntl0 cntl1 x =
        record {
          slow-above = (takes.positive slow).0 s;
          difference-not-below = (takes.difference difference).0 d;
          tick-above = (takes.positive tick).0 ticks;
          p = x.p;
          slowest = (x.slowest.0, x.slowest.1, nearest-whole.up_to _ x.p x.slowest.0);
          step = (x.step, nearest-whole.up_to _ cntl0 x.step);
          words = x.words;
        }

    speeds-run : (slow fast : Float) → is_positive slow ≡ true → is_positive fast ≡ true → is_speedup slow fast ≡ true → (cntl0 cntl1 : ℕ) → FromEnds (speed_count slow tick) (speed_count fast tick) cntl0 cntl1 → SpeedsRun slow fast tick n cntl0 cntl1
    unfolding speed_count period_count
    speeds-run slow fast s f o cntl0 cntl1 x =
        let falls = slope-falls x.p x.q n in
        record {
          slow-above = (takes.positive slow).0 s;
          fast-above = (takes.positive fast).0 f;
          tick-above = (takes.positive tick).0 ticks;
          in_order = (takes.speedup slow fast).0 o;
          p = x.p;
          q = x.q;
          slowest = (x.slowest.0, x.slowest.1, nearest-whole.up_to _ x.p x.slowest.0);
          fastest = (x.fastest.0, x.fastest.1, nearest-whole.up_to _ x.q x.fastest.0);
          one-rate = rw (← x.step) falls.0;
          step = rw (← x.step) falls.1;
          words = x.words;
        }

    kind-fine : (ramp : Ramp) → Fine (MayRun ramp tick n) (by_kind ramp tick n)
    unfolding periods_of speeds_of
    kind-fine (Periods slow difference) =
        let Q = PeriodsRun slow difference tick n in
        let first = period_count slow tick in
        let step = period_count difference tick in
        asked Q (is_positive slow) _
        (λ s. asked Q (is_difference difference) (steps_of first step n)
        (λ d. weaker (FromSteps first step) Q (steps_of first step n) (periods-run slow difference s d) (steps-fine first step)))
    kind-fine (Speeds slow fast) =
        let Q = SpeedsRun slow fast tick n in
        let first = speed_count slow tick in
        let last = speed_count fast tick in
        asked Q (is_positive slow) _
        (λ s. asked Q (is_positive fast) _
        (λ f. asked Q (is_speedup slow fast) (ends_of first last n)
        (λ o. weaker (FromEnds first last) Q (ends_of first last n) (speeds-run slow fast s f o) (ends-fine first last))))

pub counts-fine : (ramp : Ramp) (tick : Float) (n : ℕ) → Fine (MayRun ramp tick n) (counts_of ramp tick n)
unfolding counts_of
counts-fine ramp tick n =
    asked (MayRun ramp tick n) (is_rate_count n) _
    (λ i. asked (MayRun ramp tick n) (is_positive tick) (by_kind ramp tick n) (λ t. kind-fine n ((takes.rates n).0 i) tick t ramp))

-- ---- from the ramp to the answer

words_take : (n p cntl0 cntl1 : ℕ) → WordsRun n p cntl0 cntl1 → words_of p cntl0 n ≡ taken_with cntl0 cntl1
unfolding words_of ask
words_take n p cntl0 cntl1 w =
    rw (← w.sum, le-leb cntl1 0xffff w.word, (question-8 cntl0 cntl1 n).1 (w.last, w.first))

pub ramp-takes : (ramp : Ramp) (tick : Float) (n cntl0 cntl1 : ℕ) → MayRun ramp tick n cntl0 cntl1 → counts_of ramp tick n ≡ taken_with cntl0 cntl1
unfolding counts_of periods_of speeds_of steps_of ends_of period_count speed_count ask
ramp-takes (Periods slow difference) tick n cntl0 cntl1 r =
    let i = (takes.rates n).1 r.words.rates in
    let t = (takes.positive tick).1 r.tick-above in
    let s = (takes.positive slow).1 r.slow-above in
    let d = (takes.difference difference).1 r.difference-not-below in
    rw (i, t, s, d, r.slowest.0, r.step.0, le-leb 1 r.p r.slowest.1) (words_take n r.p cntl0 cntl1 r.words)
ramp-takes (Speeds slow fast) tick n cntl0 cntl1 r =
    let i = (takes.rates n).1 r.words.rates in
    let t = (takes.positive tick).1 r.tick-above in
    let s = (takes.positive slow).1 r.slow-above in
    let f = (takes.positive fast).1 r.fast-above in
    let o = (takes.speedup slow fast).1 r.in_order in
    let c = falls-slope r.p r.q n cntl0 r.words.rates.0 (r.one-rate, r.step) in
    rw (i, t, s, f, o, r.slowest.0, r.fastest.0, le-leb 1 r.p r.slowest.1, le-leb 1 r.q r.fastest.1, c)
    (words_take n r.p cntl0 cntl1 r.words)
