use Rattle.std.proofs.Common.{rules, ◌≡◌, ◌≤◌, ◌+◌, ◌-◌, ◌++◌, length, take, refl, ap, ◌∙◌, arith}
use Rattle.std.proofs.lemmas.Slice.{take-put_mid, drop-put_mid}
use Rattle.std.proofs.lemmas.List.{length-take, length-drop}
use Rattle.line_programs.proofs.Keeping.{kept}
use Rattle.line_programs.proofs.filled.Filled.put.Goals as goal

pub returns-clause-text : goal.returns-clause-text
returns-clause-text c =
    let bytes = c.args.self.now.bytes.now in
    let a = c.args.self.now.count in
    let n = c.min-n.result in
    let h : a ≤ length bytes = search rules in
    let put : length c.copy_from_slice.new.self ≡ n = search (rules, length-take, length-drop) in
    take-put_mid a _ bytes c.copy_from_slice.new.self (a + n) (omega (arith, put)) h
    ∙ ap (λ ys. take a bytes ++ ys) c.copy_from_slice.ensures.after
    ∙ kept (length bytes) a n bytes c.args.more.now h refl (search rules)

pub returns-clause-rest : goal.returns-clause-rest
returns-clause-rest c =
    let bytes = c.args.self.now.bytes.now in
    let a = c.args.self.now.count in
    let n = c.min-n.result in
    let h : a ≤ length bytes = search rules in
    let put : length c.copy_from_slice.new.self ≡ a + n - a = search (rules, length-take, length-drop) in
    drop-put_mid a (a + n - a) bytes c.copy_from_slice.new.self (a + n) (omega arith) h put
