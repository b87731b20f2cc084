-- A line longer than any form asks for nothing, so one that is cut beyond them all asks what the whole line asks.
use Rattle.std.proofs.Common.{◌≡◌, ℕ, ◌≤◌, Bool, true, false, None, List, length, drop, take, nat_le, refl, sym, ap, ◌∙◌, arith, length-drop, leb-true, leb-false}
use Rattle.std.proofs.lemmas.Bool.Decides.{nat_tests}
use lib.Seq.{take_all, length-take-le}
use Rattle.parse.specs.Parsing.{write_line, read_line, ticks_line, command_of}
use Rattle.parse.specs.Claims.{CutSame}

module _ (rest : List ℕ) (h : 9 ≤ length rest) where
  long-write : write_line rest ≡ None
  unfolding write_line
  long-write = grind (arith, nat_tests)

  long-read : read_line rest ≡ None
  unfolding read_line
  long-read = grind (arith, nat_tests)

  long-ticks : ticks_line rest ≡ None
  unfolding ticks_line
  long-ticks = grind (arith, nat_tests)

long-none : (line : List ℕ) → 11 ≤ length line → command_of line ≡ None
unfolding command_of
long-none line h =
    let r : 9 ≤ length (drop 2 line) = rw length-drop (omega arith) in
    rw (long-write (drop 2 line) r, long-read (drop 2 line) r, long-ticks (drop 2 line) r) (grind (arith, nat_tests))

pub cut-same : CutSame
cut-same k h line = go (nat_le (length line) k) refl
  where
    go : (q : Bool) → nat_le (length line) k ≡ q → command_of (take k line) ≡ command_of line
    go true t = ap command_of (take_all k line (leb-true (length line) k t))
    go false t =
        let m = leb-false (length line) k t in
        let l = length-take-le k line (omega arith) in
        long-none (take k line) (omega arith) ∙ sym (long-none line (omega arith))
