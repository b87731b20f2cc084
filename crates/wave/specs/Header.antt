-- The head of the file: the signals' names, and the values at reset.
use Rattle.std.specs.Prelude.{ℕ, zero, suc, ◌+◌, None, List, [], ◌∷◌, ◌++◌}
use Rattle.unit.specs.TheUnit.{reset_state}
use Rattle.text.specs.Ascii.{ascii}
use Rattle.text.specs.Printing.{decimal}
use Rattle.signals.specs.Signals.{values}

-- a signal of a width in bits, with the character for it, and its name with a number
unfoldable pub declaration : ℕ → ℕ → List ℕ → ℕ → List ℕ
declaration width id name c =
    ascii "$var wire " ++ (decimal width ++ (32 ∷ id ∷ 32 ∷ name ++ (decimal c ++ ascii " $end\n")))

-- one for each of the first n channels, with characters from `first` on
unfoldable pub declarations : ℕ → ℕ → ℕ → List ℕ → List ℕ
declarations zero width first name = []
declarations (suc c) width first name = declarations c width first name ++ declaration width (first + c) name c

-- the names of all signals, and at time 0 every value of the reset state
unfoldable pub header : List ℕ
header =
    ascii "$comment one unit of time is one tick of TCR1 $end\n$timescale 1 us $end\n$scope module tpu $end\n"
    ++ (declarations 16 1 97 (ascii "pin")
    ++ (ascii "$var wire 16 ! tcr1 $end\n"
    ++ (declarations 16 16 65 (ascii "position")
    ++ (ascii "$var wire 1 \" interrupt $end\n$upscope $end\n$enddefinitions $end\n#0\n$dumpvars\n"
    ++ (values None reset_state ++ ascii "$end\n")))))
