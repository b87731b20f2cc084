use mathlib.Core.Path.{◌≡◌}
use lib.ListN.{length}
use borrow.Author.Rules.{rules}
use Rattle.pack.proofs.Laid.{laid}
use Rattle.pack.proofs.pack.Goals as goal

pub returns : goal.returns
returns c =
    let w : length c.args.st.words ≡ 128 = search rules in
    let r : length c.args.st.regs ≡ 12 = search rules in
    let z : length c.lay_channels.new.s ≡ 211 = search rules in
    rw (c.lay_row-4.ensures, c.lay_row-3.ensures, c.lay_row-2.ensures, c.lay_row.ensures)
    (laid c.args.st _ z w r c.lay_channels.ensures).1
