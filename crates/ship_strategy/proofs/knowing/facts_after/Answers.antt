use Rattle.std.proofs.Common.{sym, ◌∙◌}
use Rattle.ship_strategy.proofs.EarlierFindingRows.{seen-true}
use Rattle.ship_strategy.proofs.knowing.facts_after.Goals as goal

pub returns-in-Some : goal.returns-in-Some
returns-in-Some c = seen-true c.args.program.now c.args.seen.now.tables c.args.at c.args.left c.args.right c.in-Some.x c.requires.seen (sym c.row.ensures ∙ c.in-Some.is)
