-- The changes of an advance, and what each command's answer makes of the recorder and the page.
use Rattle.std.proofs.Common.{◌≡◌, ℕ, suc, ◌+◌, ◌%◌, ◌^◌, ◌<◌, ◌≤◌, true, false, Some, refl, ap, ◌∙◌, add-one, arith, le-leb, Err, Ok}
use lib.ListN.{length-replicate}
use borrow.Author.Tests.{lt-leb}
use Rattle.unit.specs.declared.State.{State}
use Rattle.unit.specs.declared.Answered.{Answered}
use Rattle.unit.specs.Gate.{advance_good}
use Rattle.unit.specs.Calls.{read_of, write_of, advance_of}
use Rattle.unit.specs.OneTick.{tick, after_ticks}
use Rattle.text.specs.declared.Page.{Page}
use Rattle.text.specs.Placing.{Wrote}
use Rattle.text.proofs.PlacingLaws.{also, nothing}
use Rattle.parse.specs.declared.Command.TheVariants.{Write, Read, Ticks}
use Rattle.parse.proofs.LineLaws.{cut-same as same-command}
use Rattle.script.specs.Replying.{room, state_by, counted, ticks_by}
use Rattle.wave.specs.Changes.{changes}
use Rattle.drawing.specs.declared.Recorder.{Recorder}
use Rattle.drawing.specs.Drawing.{seen_at, tick_changes, refusal_note, noted, drawing_by, seen_if, seen_by, Drew}
use Rattle.drawing.specs.Claims.{CutSame}
use Rattle.unit.specs.Refusals.{Reading}
use Rattle.unit.specs.declared.Refusal.{Refusal}
use Rattle.unit.specs.declared.Refusal.TheVariants.{TooManyTicks}

-- ---- ticks

-- where a recorder stands after i ticks of an advance, and the page
pub record Ticked (i : ℕ) (before after : Recorder) (page left : Page) : Type 0 where
  pub moved : after.bench.state ≡ after_ticks i before.bench.state
  pub counted : after.bench.ticks ≡ (before.bench.ticks + i) % 2 ^ 64
  pub shown : after.seen ≡ seen_at i before.seen before.bench.state
  pub wrote : Wrote page (tick_changes i before.seen before.bench.state before.bench.ticks) left

pub unticked : (recorder : Recorder) (page : Page) → recorder.bench.ticks < 2 ^ 64 → Ticked 0 recorder recorder page page
unfolding after_ticks seen_at tick_changes
unticked recorder page h = record { moved = refl; counted = omega arith; shown = refl; wrote = nothing page }

pub one_more :
    {before mid after : Recorder} {page between left : Page} (i : ℕ) →
    Ticked i before mid page between →
    after.bench.state ≡ tick mid.bench.state →
    after.bench.ticks ≡ (before.bench.ticks + (i + 1)) % 2 ^ 64 →
    after.seen ≡ after.bench.state →
    Wrote between (changes after.bench.ticks mid.seen after.bench.state) left →
    Ticked (i + 1) before after page left
unfolding after_ticks seen_at tick_changes
one_more {before} {mid} {after} i t moved counted shown wrote =
    let s : after.bench.state ≡ after_ticks (suc i) before.bench.state = moved ∙ ap tick t.moved in
    let n : after.bench.ticks ≡ (before.bench.ticks + suc i) % 2 ^ 64 = rw add-one at counted in
    rw (add-one i)
    (record { moved = s; counted = n; shown = shown ∙ s; wrote = also t.wrote (rw (n, s, t.shown) at wrote) })

-- ---- question 10 for the words that the script lends

room-enough : (n : ℕ) → n ≤ 4096 → advance_good n room ≡ true
unfolding advance_good room
room-enough n h = rw (length-replicate {A = ℕ} 4096 0, le-leb n 4096 h)

room-short : (n : ℕ) → 4096 < n → advance_good n room ≡ false
unfolding advance_good
room-short n h = rw (lt-leb n 4096 h)

advanced : (s : State) (n : ℕ) → n ≤ 4096 → advance_of s n room ≡ record { answer = Ok tt; state = after_ticks n s }
unfolding advance_of
advanced s n h = rw (room-enough n h)

stopped : (s : State) (n : ℕ) → 4096 < n → advance_of s n room ≡ record { answer = Err TooManyTicks; state = s }
unfolding advance_of
stopped s n h = rw (room-short n h)

-- ---- each answer

module _ (recorder : Recorder) (page : Page) where
  module _ (a v : ℕ) (x : Answered) (e : x ≡ write_of recorder.bench.state a v) where
    pub write-taken : x.answer ≡ Ok tt → Drew (Some (Write a v)) recorder (record recorder { bench = record recorder.bench { state = x.state } }) page page
    unfolding state_by ticks_by seen_by drawing_by noted
    write-taken t = record { state = ap (λ y. y.state) e; count = refl; shown = refl; wrote = rw (← e, t) (nothing page) }

    pub write-refused :
        (r : Refusal) (left : Page) →
        x.answer ≡ Err r →
        Wrote page (refusal_note r) left →
        Drew (Some (Write a v)) recorder (record recorder { bench = record recorder.bench { state = x.state } }) page left
    unfolding state_by ticks_by seen_by drawing_by noted
    write-refused r left t w = record { state = ap (λ y. y.state) e; count = refl; shown = refl; wrote = rw (← e, t) w }

  module _ (a : ℕ) (x : Reading) (e : x ≡ read_of recorder.bench.state a) where
    pub read_word : (w : ℕ) → x ≡ Ok w → Drew (Some (Read a)) recorder recorder page page
    unfolding state_by ticks_by seen_by drawing_by noted
    read_word w t = record { state = refl; count = refl; shown = refl; wrote = rw (← e, t) (nothing page) }

    pub read-refused : (r : Refusal) (left : Page) → x ≡ Err r → Wrote page (refusal_note r) left → Drew (Some (Read a)) recorder recorder page left
    unfolding state_by ticks_by seen_by drawing_by noted
    read-refused r left t w = record { state = refl; count = refl; shown = refl; wrote = rw (← e, t) w }

  module _ (n : ℕ) (left : Page) where
    pub advance-taken : (after : Recorder) → n ≤ 4096 → Ticked n recorder after page left → Drew (Some (Ticks n)) recorder after page left
    unfolding state_by ticks_by seen_by drawing_by noted counted seen_if
    advance-taken after h t =
        let g = advanced recorder.bench.state n h in
        record { state = rw (state_by, g) t.moved; count = rw g t.counted; shown = rw g t.shown; wrote = rw g t.wrote }

    pub advance-refused : 4096 < n → Wrote page (refusal_note TooManyTicks) left → Drew (Some (Ticks n)) recorder recorder page left
    unfolding state_by ticks_by seen_by drawing_by noted counted seen_if
    advance-refused h w =
        let g = stopped recorder.bench.state n h in
        record { state = rw (state_by, g); count = rw g; shown = rw g; wrote = rw g w }

pub cut-same : CutSame
cut-same k h seen s ticks line =
    let e = same-command k h line in
    (ap (λ c. seen_by c seen s) e, ap (λ c. drawing_by c seen s ticks) e)
