-- Questions that are put one after another with `?`, x being what one of them answered and q what its function found: `search questions`.
use Rattle.std.proofs.Common.{arith, Ok, Err}
use mathlib.Core.Bool.{Bool, true, false}
use mathlib.Core.Path.{◌≡◌, refl, sym, ◌∙◌, subst}
use Rattle.words.specs.Choice.{ask}
use Rattle.unit.specs.declared.State.{State}
use Rattle.unit.specs.declared.Refusal.{Refusal}
use Rattle.unit.specs.Refusals.{Answer}
use Rattle.unit.specs.Gate.{Asked, Yes, No}
use Rattle.requests.specs.Told.{told}

-- what a question comes to
came : (q Q : Bool) (n : Refusal) (x y : Answer) → q ≡ Q → x ≡ ask q (Err n) (Ok tt) → x ≡ y → y ≡ ask Q (Err n) (Ok tt)
came q Q n x y e a b = sym b ∙ a ∙ subst (λ k. ask q (Err n) (Ok tt) ≡ ask k (Err n) (Ok tt)) e refl

-- it said no, and that is returned
pub said-no : (q Q : Bool) (n e : Refusal) (x : Answer) (rest : Asked) → q ≡ Q → x ≡ ask q (Err n) (Ok tt) → x ≡ Err e → No e ≡ ask Q (No n) rest
unfolding ask
said-no q Q n e x rest h a b = by Q (came q Q n x (Err e) h a b)
  where
    by : (k : Bool) → ◌≡◌ {A = Answer} (Err e) (ask k (Err n) (Ok tt)) → No e ≡ ask k (No n) rest
    by true d = grind arith
    by false d = grind arith

-- it said yes, and the next one is put
pub said-yes : (q Q : Bool) (n : Refusal) (x : Answer) (v rest : Asked) → q ≡ Q → x ≡ ask q (Err n) (Ok tt) → x ≡ Ok tt → v ≡ rest → v ≡ ask Q (No n) rest
unfolding ask
said-yes q Q n x v rest h a b w = by Q (came q Q n x (Ok tt) h a b)
  where
    by : (k : Bool) → ◌≡◌ {A = Answer} (Ok tt) (ask k (Err n) (Ok tt)) → v ≡ ask k (No n) rest
    by true d = w
    by false d = grind arith

-- the last one's answer is returned
pub said-last : (q Q : Bool) (n : Refusal) (x : Answer) (t : State) → q ≡ Q → x ≡ ask q (Err n) (Ok tt) → told x t ≡ ask Q (No n) (Yes t)
unfolding ask
said-last q Q n x t h a = subst (λ y. told y t ≡ ask Q (No n) (Yes t)) (sym a) (subst (λ k. told (ask q (Err n) (Ok tt)) t ≡ ask k (No n) (Yes t)) h (by q))
  where
    by : (k : Bool) → told (ask k (Err n) (Ok tt)) t ≡ ask k (No n) (Yes t)
    by true = refl
    by false = refl

pub ruleset questions = (said-no, said-yes, said-last)
