-- A bit of a word, and as a number; and what `map` makes of an option.
use Rattle.std.proofs.Common.{◌≡◌, ℕ, ◌%◌, ◌<◌, Bool, true, false, Option, Some, None, option_map, refl, ap, arith}
use Rattle.std.specs.Int.{from_bool}
use Rattle.std.specs.Option.{MatchOption, IsSomeAnd}
use Rattle.words.specs.Field.{bit_of, bit_value}

pub level : (on : Bool) → from_bool on ≡ bit_value on
level true = refl
level false = refl

pub bit_at : (w i : ℕ) (on : Bool) → i < 16 → on ≡ bit_of w (i % 16) → on ≡ bit_of w i
bit_at w i on h e =
    let r : i % 16 ≡ i = omega arith in
    rw r at e

pub mapped : {A B : Type 0} (o : Option A) (r : Option B) (f : A → B) (gave : A → B → Type 0) → ((x : A) (y : B) → gave x y → y ≡ f x) → MatchOption o (r ≡ None) (λ x. IsSomeAnd r (gave x)) → r ≡ option_map f o
mapped None r f gave h e = e
mapped (Some x) (Some y) f gave h p = ap Some (h x y p)
mapped (Some x) None f gave h p = absurd p

pub fused : {A B C : Type 0} (f : A → B) (g : B → C) (o : Option A) → option_map g (option_map f o) ≡ option_map (λ x. g (f x)) o
fused f g None = refl
fused f g (Some x) = refl
