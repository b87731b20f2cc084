-- Nothing that a line draws is longer than MAX_DRAWN.
use Rattle.std.proofs.Common.{◌≡◌, ℕ, zero, suc, ◌+◌, ◌*◌, ◌%◌, ◌^◌, ◌≤◌, Option, Some, None, Result, Ok, Err, List, length, refl, arith, length-append, leb-true}
use Rattle.unit.specs.declared.State.{State}
use Rattle.unit.specs.declared.Refusal.{Refusal}
use Rattle.unit.specs.Refusals.{refusal_number}
use Rattle.unit.specs.Gate.{advance_good}
use Rattle.unit.specs.OneTick.{after_ticks}
use Rattle.words.proofs.ChoiceLaws.{and_left}
use Rattle.text.specs.Ascii.{ascii}
use Rattle.text.proofs.LengthLaws.{decimal-short}
use Rattle.parse.specs.declared.Command.{Command}
use Rattle.parse.specs.declared.Command.TheVariants.{Write, Read, Ticks}
use Rattle.parse.specs.Parsing.{command_of}
use Rattle.script.specs.Replying.{room}
use Rattle.script.proofs.ReplyingLaws.{good}
use Rattle.wave.proofs.LengthLaws.{short}
use Rattle.drawing.specs.Drawing.{seen_at, tick_changes, refusal_note, noted, drawing_by}
use Rattle.drawing.specs.Claims.{NoneLonger}

ticks-short : (n : ℕ) (seen s : State) (ticks : ℕ) → length (tick_changes n seen s ticks) ≤ n * 413
unfolding tick_changes
ticks-short zero seen s ticks = omega arith
ticks-short (suc i) seen s ticks =
    let d = short.0 ((ticks + suc i) % 2 ^ 64) (seen_at i seen s) (after_ticks (suc i) s) in
    rw length-append (omega (arith, ticks-short i seen s ticks))

note-short : (r : Refusal) → length (refusal_note r) ≤ 4096 * 413
unfolding refusal_note ascii
note-short r = simp length-append (omega (arith, decimal-short.1 (refusal_number r)))

noted-short : {T : Type 0} (answer : Result T Refusal) (bytes : List ℕ) → ((x : T) → answer ≡ Ok x → length bytes ≤ 4096 * 413) → length (noted answer bytes) ≤ 4096 * 413
unfolding noted
noted-short (Ok x) bytes f = f x refl
noted-short (Err r) bytes f = note-short r

by-command : (c : Option Command) (seen s : State) (ticks : ℕ) → length (drawing_by c seen s ticks) ≤ 4096 * 413
unfolding drawing_by advance_good ascii
by-command (Some (Write a v)) seen s ticks = noted-short _ _ (λ x t. omega arith)
by-command (Some (Read a)) seen s ticks = noted-short _ _ (λ x t. omega arith)
by-command (Some (Ticks n)) seen s ticks =
    noted-short _ _
    (λ u t.
    let h : n ≤ 4096 = leb-true n 4096 (and_left _ _ (good s n room u t)) in
    omega (arith, ticks-short n seen s ticks))
by-command None seen s ticks = omega arith

pub none-longer : NoneLonger
none-longer seen s ticks line = by-command (command_of line) seen s ticks
