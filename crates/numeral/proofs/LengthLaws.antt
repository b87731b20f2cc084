-- How many bytes a number has.
use Prim.Native.Nat.{ℕ, zero, suc, ◌+◌, ◌≤◌}
use mathlib.Core.Bool.{Bool, true, false, ◌&&◌}
use mathlib.Core.List.{List}
use mathlib.Core.Path.{◌≡◌, refl}
use native.Mathlib.Omega.{arith}
use borrow.Author.Tests.{leb-true}
use lib.ListN.{length, get_or}
use lib.Dec.{leb, eqb}
use lib.Ieee.{Float}
use Rattle.std.specs.Prelude.{Option, Some, None, IfSome, option_and_then}
use Rattle.words.specs.Choice.{pick}
use Rattle.words.proofs.ChoiceLaws.{pick-cases, and_right}
use Rattle.numeral.specs.Decimal.{takes, after_digits, after_point, with_byte, numeral_of, Small, value_of, decimal_of, small_of, short_of}
use Rattle.numeral.specs.Claims.{NoLonger}
use Rattle.numeral.specs.declared.Numeral.{Numeral}
use Rattle.numeral.specs.declared.Numeral.TheVariants.{Digits, Parts}
use Rattle.numeral.proofs.NumeralLaws.{small-numeral}

-- of the bytes read each is a digit, but for the point
abbrev Holds : ℕ → Numeral → Type 0
Holds bytes (Digits w n) = bytes ≡ n
Holds bytes (Parts w n k) = bytes ≡ n + 1

holds-byte : (bytes b : ℕ) (m : Option Numeral) → IfSome m (Holds bytes) → IfSome (option_and_then (λ n. with_byte n b) m) (Holds (suc bytes))
unfolding with_byte after_digits after_point
holds-byte bytes b (Some (Digits w n)) h =
    let P = λ (o : Option Numeral). IfSome o (Holds (suc bytes)) in
    pick-cases P (eqb b 46)
    (λ _. pick-cases P (leb 1 n) (λ _. omega arith) (λ _. tt))
    (λ _. pick-cases P (takes n b) (λ _. omega arith) (λ _. tt))
holds-byte bytes b (Some (Parts w n k)) h = pick-cases (λ o. IfSome o (Holds (suc bytes))) (takes n b) (λ _. omega arith) (λ _. tt)
holds-byte bytes b None h = tt

holds : (n : ℕ) (text : List ℕ) → IfSome (numeral_of n text) (Holds n)
unfolding numeral_of
holds zero text = refl
holds (suc n) text = holds-byte n (get_or text n 0) (numeral_of n text) (holds n text)

decimal-length : (bytes : ℕ) (m : Option Numeral) (x : Float) → IfSome m (Holds bytes) → IfSome m Small → option_and_then value_of m ≡ Some x → bytes ≤ 16
decimal-length bytes (Some (Digits w n)) x h s e = omega (arith, s.1)
decimal-length bytes (Some (Parts w n k)) x h s e = omega (arith, s.1)
decimal-length bytes None x h s e = cc

short-length : (bytes : ℕ) (m : Option Numeral) (v : ℕ) → IfSome m (Holds bytes) → option_and_then small_of m ≡ Some v → bytes ≤ 2
unfolding small_of
short-length bytes (Some (Digits w n)) v h e = go (leb 1 n && leb n 2) refl e
  where
    go : (q : Bool) → (leb 1 n && leb n 2) ≡ q → pick q (Some w) None ≡ Some v → bytes ≤ 2
    go true t f = let l = leb-true n 2 (and_right (leb 1 n) (leb n 2) t) in omega arith
    go false t f = cc
short-length bytes (Some (Parts w n k)) v h e = cc
short-length bytes None v h e = cc

pub no_longer : NoLonger
unfolding decimal_of short_of
no_longer =
    record {
      decimal = λ text x. decimal-length (length text) (numeral_of (length text) text) x (holds (length text) text) (small-numeral (length text) text);
      short = λ text n. short-length (length text) (numeral_of (length text) text) n (holds (length text) text);
    }
