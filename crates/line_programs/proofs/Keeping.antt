-- Bytes put behind those that a buffer keeps, as many as there is room for.
use Rattle.std.proofs.Common.{ℕ, ◌≡◌, ◌≤◌, ◌+◌, ◌-◌, List, ◌++◌, length, min, take, ap, sym, ◌∙◌, arith}
use Rattle.std.proofs.lemmas.List.{take_min, length-take-le}
use Rattle.std.proofs.Math.Seq.{take-append-add}

pub kept : (l a n : ℕ) (xs more : List ℕ) → a ≤ length xs → l ≡ length xs → n ≡ min (length more) (l - a) → take a xs ++ take n more ≡ take l (take a xs ++ more)
kept l a n xs more h e m =
    let long : length (take a xs) ≡ a = length-take-le a xs h in
    let all : length (take a xs) + (l - a) ≡ l = omega arith in
    let same : n ≡ min (l - a) (length more) = grind arith in
    ap (λ k. take a xs ++ take k more) same ∙ ap (λ ys. take a xs ++ ys) (take_min (l - a) more) ∙ sym (take-append-add (take a xs) more (l - a)) ∙ ap (λ k. take k (take a xs ++ more)) all
