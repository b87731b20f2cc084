-- What is drawn of one tick.
use Rattle.std.specs.Prelude.{ℕ, Some, List, ◌++◌}
use Rattle.unit.specs.declared.State.{State}
use Rattle.text.specs.Ascii.{ascii}
use Rattle.text.specs.Printing.{decimal}
use Rattle.signals.specs.Signals.{values}

-- what one tick changes: `#`, its number, and the values that differ
unfoldable pub changes : ℕ → State → State → List ℕ
changes tick old s = ascii "#" ++ (decimal tick ++ (ascii "\n" ++ values (Some old) s))
