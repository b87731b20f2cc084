-- Why a long line asks for nothing.
use Prim.Native.Nat.{ℕ, ◌+◌, ◌-◌, ◌≤◌}
use mathlib.Core.Bool.{Bool, true, false}
use mathlib.Core.Path.{◌≡◌, refl, sym, ap, ◌∙◌}
use mathlib.Core.List.{List}
use native.Mathlib.Omega.{arith}
use lib.Dec.{leb, ltb, eqb}
use lib.ListN.{length, take, drop, get_or, length-drop}
use lib.Seq.{take-length, take_all, length-take-le}
use borrow.Author.Tests.{ltb-true, leb-true, leb-false}
use lib.Ieee.{Float}
use Rattle.words.specs.Choice.{ask}
use Rattle.words.proofs.ChoiceLaws.{ask-cases}
use Rattle.std.specs.Prelude.{Option, Some, None}
use Rattle.numeral.specs.Decimal.{decimal_of, short_of}
use Rattle.numeral.proofs.LengthLaws.{no_longer}
use Rattle.text.proofs.FindingLaws.{found_from}
use Rattle.ramp_lines.specs.declared.line.Request.{Request}
use Rattle.ramp_lines.specs.Lines.{next_space, between, asked_by, request_of}
use Rattle.ramp_lines.specs.Replying.{reply_by, reply_to}
use Rattle.ramp_lines.specs.Claims.{CutSame}

-- a part up to the line's end is all that is left
pub to_end : (line : List ℕ) (k : ℕ) → take (length line - k) (drop k line) ≡ drop k line
to_end line k = rw (← length-drop k line) (take-length (drop k line))

-- ---- long lines

between-length : (line : List ℕ) (a e : ℕ) → e ≤ length line → length (between line a e) ≡ e - a
between-length line a e h = length-take-le (e - a) (drop a line) (simp length-drop (omega arith))

-- numerals of these lengths are not all there
module _ (letter : ℕ) (first second tick last : List ℕ) (long : 51 ≤ length first + length second + length tick + length last) where
  numerals : (x y t : Option Float) (n : Option ℕ) → decimal_of first ≡ x → decimal_of second ≡ y → decimal_of tick ≡ t → short_of last ≡ n → asked_by letter x y t n ≡ None
  unfolding asked_by
  numerals None y t n e f g h = refl
  numerals (Some x) None t n e f g h = refl
  numerals (Some x) (Some y) None n e f g h = refl
  numerals (Some x) (Some y) (Some t) None e f g h = refl
  numerals (Some x) (Some y) (Some t) (Some n) e f g h =
      let a = no_longer.decimal first x e in
      let b = no_longer.decimal second y f in
      let c = no_longer.decimal tick t g in
      let d = no_longer.short last n h in
      absurd (omega arith)

long-other : (line : List ℕ) → 56 ≤ length line → request_of line ≡ None
unfolding request_of
long-other line h =
    passes (leb 2 (length line)) _ (λ _. passes (eqb (get_or line 1 0) 32) _ (λ _. passes (ltb a (length line)) _
    (λ i. passes (ltb b (length line)) _ (λ j. passes (ltb c (length line)) _ (λ k. asks i j k)))))
  where
    a : ℕ
    a = next_space line 2

    b : ℕ
    b = next_space line (a + 1)

    c : ℕ
    c = next_space line (b + 1)

    passes : (q : Bool) (rest : Option Request) → (q ≡ true → rest ≡ None) → ask q None rest ≡ None
    passes q rest f = ask-cases (λ (r : Option Request). r ≡ None) q None rest refl f

    asks : ltb a (length line) ≡ true → ltb b (length line) ≡ true → ltb c (length line) ≡ true
        → asked_by (get_or line 0 0) (decimal_of (between line 2 a)) (decimal_of (between line (a + 1) b)) (decimal_of (between line (b + 1) c)) (short_of (drop (c + 1) line)) ≡ None
    asks i j k =
        let A = ltb-true a (length line) i in
        let B = ltb-true b (length line) j in
        let C = ltb-true c (length line) k in
        let x = between-length line 2 a (omega arith) in
        let y = between-length line (a + 1) b (omega arith) in
        let z = between-length line (b + 1) c (omega arith) in
        let w = length-drop (c + 1) line in
        let p = found_from line 2 32 in
        let q = found_from line (a + 1) 32 in
        let r = found_from line (b + 1) 32 in
        numerals (get_or line 0 0) (between line 2 a) (between line (a + 1) b) (between line (b + 1) c) (drop (c + 1) line) (omega arith) _ _ _ _ refl refl refl refl

pub cut-same : CutSame
unfolding reply_to
cut-same line = go (leb (length line) 64) refl
  where
    go : (q : Bool) → leb (length line) 64 ≡ q → reply_to (take 64 line) ≡ reply_to line
    go true t = ap reply_to (take_all 64 line (leb-true (length line) 64 t))
    go false t =
        let h = leb-false (length line) 64 t in
        let l = length-take-le 64 line (omega arith) in
        ap reply_by (long-other (take 64 line) (omega arith) ∙ sym (long-other line (omega arith)))
