-- What a line of a script draws. State and ticks after it are those of the script program.
use Rattle.std.specs.Prelude.{◌≡◌, ℕ, zero, suc, ◌+◌, ◌%◌, ◌^◌, Option, Some, None, Result, List, [], ◌++◌, Err, Ok}
use Rattle.unit.specs.declared.State.{State}
use Rattle.unit.specs.Calls.{read_of, write_of, advance_of}
use Rattle.unit.specs.declared.Refusal.{Refusal}
use Rattle.unit.specs.OneTick.{after_ticks}
use Rattle.text.specs.Ascii.{ascii}
use Rattle.text.specs.declared.Page.{Page}
use Rattle.text.specs.Placing.{Wrote}
use Rattle.text.specs.Printing.{decimal}
use Rattle.parse.specs.declared.Command.{Command}
use Rattle.parse.specs.declared.Command.TheVariants.{Write, Read, Ticks}
use Rattle.parse.specs.Parsing.{command_of}
use Rattle.script.specs.Replying.{room, state_by, ticks_by}
use Rattle.drawing.specs.declared.Recorder.{Recorder}
use Rattle.wave.specs.Changes.{changes}
use Rattle.unit.specs.Refusals.{refusal_number, Answer}

-- ---- ticks

-- the state drawn last before tick i of an advance: that of the tick before it, and before the first what was drawn last by then
unfoldable pub seen_at : ℕ → State → State → State
seen_at zero seen s = seen
seen_at (suc i) seen s = after_ticks (suc i) s

-- the changes of the first i ticks, after so many ticks since reset
unfoldable pub tick_changes : ℕ → State → State → ℕ → List ℕ
tick_changes zero seen s ticks = []
tick_changes (suc i) seen s ticks =
    tick_changes i seen s ticks ++ changes ((ticks + suc i) % 2 ^ 64) (seen_at i seen s) (after_ticks (suc i) s)

-- ---- what the script program answers with `N` or `E` is kept as a comment

-- the number of a refusal
unfoldable pub refusal_note : Refusal → List ℕ
refusal_note r = ascii "$comment N " ++ (decimal (refusal_number r) ++ ascii " $end\n")

-- what a taken call draws, or that comment
unfoldable pub noted : {T : Type 0} → Result T Refusal → List ℕ → List ℕ
noted (Ok x) bytes = bytes
noted (Err r) bytes = refusal_note r

-- ---- by command

-- the bytes
unfoldable pub drawing_by : Option Command → State → State → ℕ → List ℕ
drawing_by (Some (Write a v)) seen s ticks = noted (write_of s a v).answer []
drawing_by (Some (Read a)) seen s ticks = noted (read_of s a) []
drawing_by (Some (Ticks n)) seen s ticks = noted (advance_of s n room).answer (tick_changes n seen s ticks)
drawing_by None seen s ticks = ascii "$comment E $end\n"

-- a refused advance draws no state
unfoldable pub seen_if : Answer → State → State → State
seen_if (Ok u) now seen = now
seen_if (Err r) now seen = seen

-- the state drawn last
unfoldable pub seen_by : Option Command → State → State → State
seen_by (Some (Write a v)) seen s = seen
seen_by (Some (Read a)) seen s = seen
seen_by (Some (Ticks n)) seen s = seen_if (advance_of s n room).answer (seen_at n seen s) seen
seen_by None seen s = seen

-- ---- by the line

-- the bytes
abbrev pub drawing : State → State → ℕ → List ℕ → List ℕ
drawing seen s ticks line = drawing_by (command_of line) seen s ticks

-- the state drawn last
abbrev pub seen_after : State → State → List ℕ → State
seen_after seen s line = seen_by (command_of line) seen s

-- what each function that carries out a command says
pub record Drew (c : Option Command) (before after : Recorder) (page left : Page) : Type 0 where
  pub state : after.bench.state ≡ state_by c before.bench.state
  pub count : after.bench.ticks ≡ ticks_by c before.bench.state before.bench.ticks
  pub shown : after.seen ≡ seen_by c before.seen before.bench.state
  pub wrote : Wrote page (drawing_by c before.seen before.bench.state before.bench.ticks) left
