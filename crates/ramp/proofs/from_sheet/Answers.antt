use borrow.Author.Rules.{rules}
use Rattle.words.specs.Choice.{ask}
use Rattle.ramp.specs.Sheet.{counts_of}
use Rattle.ramp.proofs.RampLaws.{answered, no_words}
use Rattle.ramp.proofs.from_sheet.Goals as goal

pub returns-then-not-is_rate_count-clause-number : goal.returns-then-not-is_rate_count-clause-number
returns-then-not-is_rate_count-clause-number c = rw (no_words c.args.n)

pub returns-in-Periods-clause-number : goal.returns-in-Periods-clause-number
unfolding counts_of ask
returns-in-Periods-clause-number c = answered _ c.args.ramp c.args.tick c.args.n (search rules)

pub returns-in-Speeds-clause-number : goal.returns-in-Speeds-clause-number
unfolding counts_of ask
returns-in-Speeds-clause-number c = answered _ c.args.ramp c.args.tick c.args.n (search rules)
