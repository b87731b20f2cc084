-- Which channels are ready, as three words: paper 02, #107.
use Rattle.std.specs.Prelude.{ℕ, zero, suc, ◌%◌, Bool, true, leb, eqb}
use Rattle.words.specs.Choice.{pick}
use Rattle.words.specs.Field.{with_field}
use Rattle.slots.specs.declared.Ready.{Ready}
use Rattle.unit.specs.declared.State.{State}
use Rattle.unit.specs.TheUnit.{priority, request, channel}
use Rattle.unit.specs.Pending.{is_matched, wanted}

-- channel c has a request or a match to be served, whether it is enabled or not
unfoldable pub pends : State → ℕ → Bool
pends s c = pick (leb 2 (request s c)) true (is_matched (channel s c).phase)

-- a word with a bit for each of the first n channels that has
unfoldable pub pending_below : ℕ → State → ℕ
pending_below zero s = 0
pending_below (suc n) s = pick (pends s n) (with_field 1 (pending_below n s) (n % 16) 1) (pending_below n s)

-- channel c is ready at this level
unfoldable pub noted : Ready → ℕ → ℕ → Ready
noted w c level =
    pick (eqb level 3) record { high = with_field 1 w.high (c % 16) 1; middle = w.middle; low = w.low }
    (pick (eqb level 2) record { high = w.high; middle = with_field 1 w.middle (c % 16) 1; low = w.low }
    record { high = w.high; middle = w.middle; low = with_field 1 w.low (c % 16) 1 })

-- noted if it is
unfoldable pub asked : State → ℕ → Ready → Ready
asked s c w = pick (wanted s c) (noted w c (priority s c)) w

-- of the first n channels those that are
unfoldable pub ready_below : ℕ → State → Ready
ready_below zero s = record { high = 0; middle = 0; low = 0 }
ready_below (suc n) s = asked s n (ready_below n s)
