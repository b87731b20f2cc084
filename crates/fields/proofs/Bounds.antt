-- A word beyond the last channel reads as 0, and a group ends at the last channel.
use Prim.Native.Nat.{ℕ, suc, ◌+◌, ◌-◌, ◌*◌, ◌<◌, ◌≤◌}
use mathlib.Core.List.{List}
use mathlib.Core.Path.{◌≡◌, ◌∙◌}
use native.Mathlib.Omega.{arith}
use lib.ListN.{length, get_or-eq_default}
use Rattle.words.specs.Field.{field}
use Rattle.unit.specs.declared.State.{State}
use Rattle.unit.specs.TheUnit.{word, last, size}
use Rattle.unit.proofs.Access.{last-small}
use Rattle.pack.specs.Packing.{tabulate, word_in, state_in}
use Rattle.pack.proofs.Tabled.{length-tabled}

pub word-beyond : (s : List ℕ) (c i : ℕ) → 128 ≤ 8 * c + i → word (state_in s) c i ≡ 0
unfolding word state_in
word-beyond s c i h =
    let e : length (tabulate 128 (word_in s)) ≡ 128 = length-tabled (word_in s) 128 in
    get_or-eq_default (tabulate 128 (word_in s)) 0 (omega (arith, e))

group-within : (s : State) (c : ℕ) → c < 16 → c + size s c ≤ 16
unfolding size
group-within s c h = omega (arith, h, last-small s c)

-- by its word 5
by_word : (s : State) (c w : ℕ) → w ≡ word s c 5 → suc (field 4 w 0) - c ≡ size s c
unfolding size last
by_word s c w e = rw e

pub sized : (s : State) (c w n : ℕ) → w ≡ word s c 5 → n ≡ suc (field 4 w 0) - c → c < 16 → (n ≡ size s c) × (c + n ≤ 16)
sized s c w n e d h =
    let same : n ≡ size s c = d ∙ by_word s c w e in
    (same, rw same (group-within s c h))
