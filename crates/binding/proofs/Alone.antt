-- A word of requests that asks one channel alone.
use Prim.Native.Nat.{ℕ, ◌*◌, ◌%◌, ◌^◌, ◌<◌}
use native.Mathlib.Nat.{zero-div}
use native.Mathlib.Omega.{arith}
use mathlib.Core.Logic.{◌≢◌}
use mathlib.Core.Path.{◌≡◌, sym, ap, ◌∙◌}
use Rattle.words.specs.Field.{field, with_field}
use Rattle.words.proofs.FieldLaws.{field_apart}

-- where nothing is left of a word without one of its pairs, every other is 0
pub pairs-apart : (v r k : ℕ) → with_field 2 v (2 * (r % 8)) 0 ≡ 0 → r < 8 → k ≢ r → field 2 v (2 * k) ≡ 0
unfolding field
pairs-apart v r k e l n =
    let d : k ≢ r % 8 = λ x. n (omega (arith, x, l)) in
    sym (field_apart 2 v 0 k (r % 8) d) ∙ ap (λ (w : ℕ). field 2 w (2 * k)) e ∙ rw (zero-div (2 ^ (2 * k)))
