-- The requests of a word, one channel more at a time.
use Prim.Native.Nat.{ℕ, ◌+◌, ◌*◌, ◌%◌, ◌<◌}
use mathlib.Core.Logic.{◌≢◌}
use mathlib.Core.Path.{◌≡◌, refl, sym}
use native.Mathlib.Omega.{arith}
use native.Mathlib.Numerals.{add-one}
use Rattle.words.specs.Field.{field}
use Rattle.unit.specs.declared.State.{State}
use Rattle.unit.specs.TheUnit.{each}
use Rattle.unit.specs.Gate.{requested, requested_one}
use Rattle.unit.proofs.Scans.{neither, lone-turn}

-- 00 and 01 do nothing
pub requests-nothing : (s : State) (c r : ℕ) → r < 2 → requested s c r ≡ s
unfolding requested
requests-nothing s c r h = rw ((neither r h).0, (neither r h).1)

pub one_more : (k a v r : ℕ) (s t : State) → t ≡ each k a (requested_one v) s → r ≡ field 2 v (2 * ((a + k) % 8)) → requested t (a + k) r ≡ each (k + 1) a (requested_one v) s
unfolding each requested_one
one_more k a v r s t e h = rw (add-one, e, h)

-- where one channel alone is asked, its request is all
pub lone-requested : (a v k : ℕ) (s : State) → a % 8 ≡ 0 → k < 8 → ((i : ℕ) → i < 8 → i ≢ k → field 2 v (2 * i) ≡ 0) → requested s (a + k) (field 2 v (2 * (k % 8))) ≡ each 8 a (requested_one v) s
unfolding each requested_one
lone-requested a v k s e l h =
    let p : (a + k) % 8 ≡ k % 8 = omega (arith, e) in
    rw (← p) (sym (lone-turn (λ n. each n a (requested_one v) s) (λ i t. requested t (a + i) (field 2 v (2 * ((a + i) % 8)))) (λ n. refl) 8 k l others))
  where
    others : (i : ℕ) (t : State) → i < 8 → i ≢ k → requested t (a + i) (field 2 v (2 * ((a + i) % 8))) ≡ t
    others i t m n =
        let p : (a + i) % 8 ≡ i = omega (arith, e) in
        requests-nothing t (a + i) (field 2 v (2 * ((a + i) % 8))) (rw (p, h i m n) (omega arith))
