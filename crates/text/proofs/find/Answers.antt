use Rattle.std.proofs.Common.{rules, tests, ◌≡◌, ℕ, ◌+◌, ◌-◌, ◌==◌, List, length, drop, take, ap, ◌∙◌, length-drop}
use lib.Seq.{take-length}
use Rattle.std.proofs.lemmas.Iterator.{YieldsList-from_slice}
use Rattle.std.proofs.lemmas.Iterator.Search.{position_from_yields_List}
use Rattle.text.specs.Finding.{first_from}
use Rattle.text.proofs.find.Goals as goal

-- what is left from a place on is the whole slice from it
to_end : (block : List ℕ) (at : ℕ) → take (length block - at) (drop at block) ≡ drop at block
to_end block at = rw (← length-drop at block) (take-length (drop at block))

pub returns-clause-found : goal.returns-clause-found
unfolding first_from
returns-clause-found c =
    let rest = take (length c.args.block.now - c.args.at) (drop c.args.at c.args.block.now) in
    let p = position_from_yields_List {all = rest} (λ (x : ℕ). x == c.args.b) _ _ c.position.result c.position.ensures.ran (YieldsList-from_slice _ cc) (λ x b q k. search (rules, tests)) in
    ap (λ i. c.args.at + i) (c.unwrap_or.ensures ∙ rw p (rw (to_end c.args.block.now c.args.at)))
