-- What a loop that lends the rest of a list on leaves in the list, and the pin words of ticks in a row.
use mathlib.Core.Path.{◌≡◌, refl, sym, ap, ◌∙◌}
use mathlib.Core.List.{List, [], ◌∷◌, ◌++◌, append-nil, append_assoc}
use Prim.Native.Nat.{ℕ, zero, suc, ◌+◌, ◌-◌, ◌≤◌, ◌<◌}
use native.Mathlib.Nat.{le_refl, add-zero, add-suc}
use native.Mathlib.Numerals.{add-one}
use native.Mathlib.Omega.{arith}
use lib.ListN.{length, take, drop, set, get_or, replicate, length-drop, length-append, length-replicate, drop_of_length-le}
use lib.Seq.{take_all, take_at, drop_at, drop-drop, drop-cons, set_at}
use borrow.Rule.Slice.PartMut.{put_mid}
use Rattle.words.specs.declared.Timers.{Timers}
use Rattle.words.specs.Clock.{onward}
use Rattle.slots.specs.declared.Slots.{Slots}
use Rattle.slots.specs.Slots.{idled}
use Rattle.unit.specs.declared.State.{State}
use Rattle.unit.specs.TheUnit.{with_timers, with_slots}
use Rattle.unit.specs.OneTick.{tick, after_ticks}
use Rattle.unit.specs.Calls.{pin_words}
use Rattle.unit.specs.Quiet.{quiet_below}
use Rattle.unit.proofs.Quiet.{quiet-ticks}

-- ---- lists

replicate-end : (n w : ℕ) → replicate n w ++ (w ∷ []) ≡ replicate (suc n) w
replicate-end zero w = refl
replicate-end (suc n) w = ap (λ l. w ∷ l) (replicate-end n w)

-- the rest from i on comes back with k places done
pub rest-done : (done more old l part : List ℕ) (i k : ℕ) → l ≡ done ++ drop i old → length done ≡ i → part ≡ more ++ drop k (take (length l - i) (drop i l)) → put_mid i (length l - i) l part ≡ (done ++ more) ++ drop (i + k) old
rest-done done more old l part i k p n e =
    let d : drop i l ≡ drop i old = rw (p, drop_at done (drop i old) i n) in
    let t : take i l ≡ done = rw (p, take_at done (drop i old) i n) in
    let m : length (drop i l) ≤ length l - i = rw length-drop (le_refl _) in
    rw (e, take_all (length l - i) (drop i l) m, drop_of_length-le (drop i l) m, append-nil, t, d, drop-drop, append_assoc)

-- ---- ticks in a row

pub after-add : (k i : ℕ) (s : State) → after_ticks k (after_ticks i s) ≡ after_ticks (i + k) s
unfolding after_ticks
after-add zero i s = rw add-zero
after-add (suc k) i s = rw add-suc (ap tick (after-add k i s))

pub pins-add : (k i : ℕ) (s : State) → pin_words i s ++ pin_words k (after_ticks i s) ≡ pin_words (i + k) s
unfolding pin_words
pins-add zero i s = rw (append-nil, add-zero)
pins-add (suc k) i s = rw (add-suc, ← append_assoc, pins-add k i s, after-add (suc k) i s, add-suc)

pub pin-words-long : (n : ℕ) (s : State) → length (pin_words n s) ≡ n
unfolding pin_words
pin-words-long zero s = refl
pin-words-long (suc n) s = rw (length-append, pin-words-long n s) (add-one n)

pub pins-of : (s : State) (t : Timers) (z : Slots) → (with_slots (with_timers s t) z).pins ≡ s.pins
unfolding with_timers with_slots
pins-of s t z = refl

-- quiet ticks show the pins as they are
pub quiet-pins : (q : ℕ) (s : State) → s.timers.tcr1 < 65536 → s.timers.tcr2 < 65536 → q ≤ quiet_below 16 s → pin_words q s ≡ replicate q s.pins
unfolding pin_words
quiet-pins zero s f g h = refl
quiet-pins (suc q) s f g h =
    rw (quiet-pins q s f g (omega (arith, h)), quiet-ticks s (suc q) f g (omega arith) h, pins-of) (replicate-end q s.pins)

pub lent-long : (i : ℕ) (s : State) (old : List ℕ) → i ≤ length old → length (pin_words i s ++ drop i old) ≡ length old
lent-long i s old h = rw (length-append, pin-words-long, length-drop) (omega (arith, h))

-- quiet ticks at once
pub quiet-leap : (q : ℕ) (s : State) → s.timers.tcr1 < 65536 → s.timers.tcr2 < 65536 → 1 ≤ q → q ≤ quiet_below 16 s
    → (after_ticks q s ≡ with_slots (with_timers s (onward q s.timers)) (idled q s.slots)) × (pin_words q s ≡ replicate q (after_ticks q s).pins)
quiet-leap q s f g l h =
    let e = quiet-ticks s q f g l h in
    (e, quiet-pins q s f g h ∙ ap (replicate q) (sym (ap (λ (t : State). t.pins) e ∙ pins-of s _ _)))
