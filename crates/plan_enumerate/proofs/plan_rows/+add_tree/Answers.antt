use Rattle.std.proofs.Common.{sym, ◌∙◌}
use Rattle.plan_trees.proofs.RootParts.{is_both, is_over}
use Rattle.ship_strategy.specs.Views.{facts_in}
use Rattle.plan_enumerate.proofs.HeldTrees.{both_held, over_held}
use Rattle.plan_enumerate.proofs.plan_rows.+add_tree.Goals as goal

pub returns-in-OverOne-clause-holds : goal.returns-in-OverOne-clause-holds
returns-in-OverOne-clause-holds t c =
    let is = is_over c.args.tree.now c.in-OverOne.input c.in-OverOne.at (sym c.in-OverOne.is ∙ c.parts.ensures.parts) in
    let below = c.add_tree-below.ensures in
    let row = c.push-row-in-OverOne.ensures in
    over_held c.args.program.now c.args.counts.now (facts_in c.args.table.now) c.args.tree.now c.in-OverOne.input c.in-OverOne.at is c.add_tree-below.new.rows.held c.push-row-in-OverOne.new.self.held
    c.add_tree-below.result c.at-in-OverOne.result below.input below.holds below.last c.at-in-OverOne.ensures row.place row.row row.others

pub returns-in-OverTwo-clause-holds : goal.returns-in-OverTwo-clause-holds
returns-in-OverTwo-clause-holds t c =
    let is = is_both c.args.tree.now c.in-OverTwo.left c.in-OverTwo.right c.in-OverTwo.at (sym c.in-OverTwo.is ∙ c.parts.ensures.parts) in
    let left = c.add_tree-on_left.ensures in
    let right = c.add_tree-on_right.ensures in
    let row = c.push-row-in-OverTwo.ensures in
    both_held c.args.program.now c.args.counts.now (facts_in c.args.table.now) c.args.tree.now c.in-OverTwo.left c.in-OverTwo.right c.in-OverTwo.at is
    c.add_tree-on_left.new.rows.held c.add_tree-on_right.new.rows.held c.push-row-in-OverTwo.new.self.held
    c.add_tree-on_left.result c.add_tree-on_right.result c.at-in-OverTwo.result left.input right.input left.holds left.last right.holds right.last right.behind right.others
    c.at-in-OverTwo.ensures row.place row.row row.others
