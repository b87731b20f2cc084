-- How long the printed bytes are.
use Prim.Native.Nat.{ℕ, zero, suc, ◌+◌, ◌*◌, ◌≤◌}
use Rattle.std.proofs.Common.{Some, None}
use mathlib.Core.List.{List}
use native.Mathlib.Omega.{arith}
use lib.ListN.{length, length-append}
use Rattle.unit.specs.declared.State.{State}
use Rattle.unit.specs.TheUnit.{reset_state}
use Rattle.text.specs.Ascii.{ascii}
use Rattle.text.proofs.LengthLaws.{decimal-short}
use Rattle.signals.proofs.LengthLaws.{values-short}
use Rattle.wave.specs.Changes.{changes}
use Rattle.wave.specs.Header.{declaration, declarations, header}
use Rattle.wave.specs.Claims.{Short}

changes-short : (tick : ℕ) (old s : State) → length (changes tick old s) ≤ 413
unfolding changes ascii
changes-short tick old s = simp length-append (omega (arith, decimal-short.1 tick, values-short (Some old) s))

-- ---- the header

declaration-short : (width id c : ℕ) (name : List ℕ) → length name ≤ 8 → length (declaration width id name c) ≤ 67
unfolding declaration ascii
declaration-short width id c name h = simp length-append (omega (arith, decimal-short.1 width, decimal-short.1 c))

declarations-short : (n width first : ℕ) (name : List ℕ) → length name ≤ 8 → length (declarations n width first name) ≤ n * 67
unfolding declarations
declarations-short zero width first name h = omega arith
declarations-short (suc c) width first name h =
    let d = declaration-short width (first + c) c name h in
    rw length-append (omega (arith, declarations-short c width first name h))

header-short : length header ≤ 3000
unfolding header ascii
header-short =
    let p = declarations-short 16 1 97 (ascii "pin") (omega arith) in
    let q = declarations-short 16 16 65 (ascii "position") (omega arith) in
    let v = values-short None reset_state in
    simp length-append (omega arith)

pub short : Short
short = (changes-short, header-short)
