use mathlib.Core.Path.{◌≡◌, refl, sym}
use native.Mathlib.Omega.{arith}
use lib.ListN.{length, drop, length-drop}
use lib.Seq.{get_or-drop}
use Rattle.pack.specs.Packing.{word_in, reg_in, state_in}
use Rattle.pack.proofs.Tabled.{first-tabled}
use borrow.Author.Rules.{rules}
use Rattle.pack.proofs.unpack.Goals as goal

pub returns : goal.returns
unfolding state_in
returns c =
    let s = c.args.s.now in
    let l : length c.args.s.now ≡ 211 = search rules in
    let w = first-tabled (word_in s) 0 s 128 (omega arith) (λ i h. refl) in
    let r = first-tabled (reg_in s) 0 (drop 128 s) 12 (rw length-drop (omega arith)) (λ i h. sym (get_or-drop 128 s i 0)) in
    rw (w, r, c.copy_from_slice.ensures.after, c.copy_from_slice-2.ensures.after, c.timers.ensures, c.pins.ensures, c.channels_in.ensures, c.slots.ensures)
