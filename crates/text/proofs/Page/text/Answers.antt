use Rattle.std.proofs.Common.{◌≡◌, ◌+◌, [], ◌∷◌, ◌++◌, ℕ, get_or, take, add-one, arith}
use lib.Seq.{take-suc}
use Rattle.text.proofs.PlacingLaws.{also, nothing}
use Rattle.text.proofs.Page.text.Goals as goal

pub loop-b-init : goal.loop-b-init
loop-b-init c = nothing _

pub loop-b-preserved : goal.loop-b-preserved
loop-b-preserved c =
    let i = c.loop-b.b-index in
    let t = c.args.t.now in
    let e : take (i + 1) t ≡ take i t ++ (get_or t i 0 ∷ []) = rw add-one (take-suc {A = ℕ} t i 0 (omega arith)) in
    rw e (also c.loop-b.invariant c.put.ensures)
