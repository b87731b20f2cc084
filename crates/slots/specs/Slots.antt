-- Paper 02, #107: whom the slot of a tick goes to. Level 3 is high (priority 11), 2 middle, 1 low.
use Rattle.std.specs.Prelude.{ℕ, zero, suc, ◌+◌, ◌%◌, Bool, Option, Some, None, eqb}
use Rattle.words.specs.Choice.{pick}
use Rattle.words.specs.Field.{bit_of}
use Rattle.slots.specs.declared.Slots.{Slots}
use Rattle.slots.specs.declared.Ready.{Ready}
use Rattle.slots.specs.declared.Level.{Level}
use Rattle.slots.specs.declared.Level.TheVariants.{High, Middle, Low}
use Rattle.slots.specs.declared.Service.{Service}

-- which channels are ready: level, then channel number
abbrev pub Asks : Type 0
Asks = ℕ → ℕ → Bool

-- a level as the priority that it stands for
abbrev pub level_number : Level → ℕ
level_number High = 3
level_number Middle = 2
level_number Low = 1

-- one of three numbers, by level
abbrev pub of_level : ℕ → ℕ → ℕ → ℕ → ℕ
of_level level high middle low = pick (eqb level 3) high (pick (eqb level 2) middle low)

-- ---- slots

-- #107, at reset: each level's last is 15, so that its search begins at 0
abbrev pub reset_slots : Slots
reset_slots = record { slot = 0; high = 0; middle = 0; low = 0 }

-- the slots at slot k, each level's last as it is
abbrev pub at : Slots → ℕ → Slots
at s k = record { slot = k; high = s.high; middle = s.middle; low = s.low }

-- #107, a tick: one slot on, in rounds of seven. The first tick since reset has slot 1, the seventh 0
unfoldable pub ticked : Slots → Slots
ticked s = at s ((s.slot + 1) % 7)

-- n ticks, one at least, with no channel ready
unfoldable pub idled : ℕ → Slots → Slots
idled n s = at s ((s.slot + n) % 7)

-- #107, the order of slots from reset: high, middle, high, low, high, middle, high
unfoldable pub slot_level : ℕ → ℕ
slot_level slot = pick (eqb slot 4) 1 (pick (eqb slot 2) 2 (pick (eqb slot 6) 2 3))

-- ---- the next of a level

-- where the search of a level begins: the number above its last, round from 15 to 0
unfoldable pub begins : Slots → ℕ → ℕ
begins s level = of_level level s.high s.middle s.low

-- c is served at this level, and is its last now
unfoldable pub served : Slots → ℕ → ℕ → Slots
served s level c =
    let above = (c + 1) % 16 in
    pick (eqb level 3) record { slot = s.slot; high = above; middle = s.middle; low = s.low }
    (pick (eqb level 2) record { slot = s.slot; high = s.high; middle = above; low = s.low }
    record { slot = s.slot; high = s.high; middle = s.middle; low = above })

-- the first of n numbers from c on, round from 15 to 0, of which f holds
unfoldable pub found : ℕ → ℕ → (ℕ → Bool) → Option ℕ
found zero c f = None
found (suc n) c f = pick (f (c % 16)) (Some (c % 16)) (found n (suc c) f)

-- #107, the turn within a level: the first that is ready from the number above its last on, and at the end of the round that last itself
abbrev pub next_in : Slots → Asks → ℕ → Option ℕ
next_in s asks level = found 16 (begins s level) (asks level)

-- ---- whom a slot goes to

-- a slot that goes to c, and leaves the slots t
abbrev pub to_channel : ℕ → Slots → Option Service
to_channel c t = Some record { channel = c; slots = t }

-- to what was found at this level; if nothing was, to whom the rest says
abbrev pub serves : Slots → ℕ → Option ℕ → Option Service → Option Service
serves s level (Some c) rest = to_channel c (served s level c)
serves s level None rest = rest

-- #107, a slot that is handed on: to high, else to middle, else to low
unfoldable pub highest : Slots → Asks → Option Service
highest s asks = serves s 3 (next_in s asks 3) (serves s 2 (next_in s asks 2) (serves s 1 (next_in s asks 1) None))

-- #107, a slot: to its own level, and where nothing is ready there it is handed on
unfoldable pub chosen : Slots → Asks → Option Service
chosen s asks = serves s (slot_level s.slot) (next_in s asks (slot_level s.slot)) (highest s asks)

-- ---- ready channels as three words

unfoldable pub ready_in : Ready → ℕ → ℕ
ready_in w level = of_level level w.high w.middle w.low

unfoldable pub asked_in : Ready → Asks
asked_in w level = bit_of (ready_in w level)
