use borrow.Author.Rules.{rules}
use Rattle.sheet.proofs.Order.{faster}
use Rattle.ramp.proofs.speeds.Goals as goal

pub ends-requires : goal.ends-requires
ends-requires c =
    let a = c.args in
    rw (c.speed_count.ensures, c.speed_count-2.ensures) (faster a.slow a.fast a.tick (search rules) (search rules) c.requires (search rules))
