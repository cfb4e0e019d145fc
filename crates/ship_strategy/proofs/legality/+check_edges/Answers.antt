use Rattle.std.proofs.Common.{rules}
use Rattle.plan_trees.proofs.RootParts.{is_both}
use Rattle.ship_strategy.proofs.legality.+check_edges.Goals as goal

pub returns-in-OverTwo-clause-legal : goal.returns-in-OverTwo-clause-legal
returns-in-OverTwo-clause-legal t c = rw (is_both c.args.tree.now c.in-OverTwo.left c.in-OverTwo.right c.in-OverTwo.at c.in-OverTwo.ensures.parts) (search rules)
