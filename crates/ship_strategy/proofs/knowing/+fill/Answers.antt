use Rattle.std.proofs.Common.{sym, ◌∙◌}
use Rattle.pact_record.specs.FieldSets.{has_field}
use Rattle.plan_trees.proofs.RootParts.{is_both, is_leaf, is_over}
use Rattle.ship_strategy.specs.Views.{facts_in}
use Rattle.ship_strategy.proofs.FilledTables.{empty_set, fields_both, filled_both, filled_leaf, filled_over}
use Rattle.ship_strategy.proofs.knowing.+fill.Goals as goal

pub returns-in-Alone-clause-table : goal.returns-in-Alone-clause-table
returns-in-Alone-clause-table t c =
    let is = is_leaf c.args.tree.now c.in-Alone.at (sym c.in-Alone.is ∙ c.parts.ensures.parts) in
    filled_leaf c.args.program.now c.args.tree.now c.in-Alone.at (has_field c.empty.result) (has_field c.empty-in-Alone.result) (facts_in c.args.table.now) (facts_in c.fill_root.new.table)
    is (empty_set (has_field c.empty.result) c.empty.ensures) (empty_set (has_field c.empty-in-Alone.result) c.empty-in-Alone.ensures) c.fill_root.ensures.table

pub returns-in-OverOne-clause-table : goal.returns-in-OverOne-clause-table
returns-in-OverOne-clause-table t c =
    let is = is_over c.args.tree.now c.in-OverOne.input c.in-OverOne.at (sym c.in-OverOne.is ∙ c.parts.ensures.parts) in
    filled_over c.args.program.now c.args.tree.now c.in-OverOne.input c.in-OverOne.at (has_field c.fill-below.result) (has_field c.empty-in-OverOne.result)
    (facts_in c.args.table.now) (facts_in c.fill-below.new.table) (facts_in c.fill_root-in-OverOne.new.table)
    is c.fill-below.ensures.attributes (empty_set (has_field c.empty-in-OverOne.result) c.empty-in-OverOne.ensures) c.fill-below.ensures.table c.fill_root-in-OverOne.ensures.table

pub returns-in-OverTwo-clause-attributes : goal.returns-in-OverTwo-clause-attributes
returns-in-OverTwo-clause-attributes t c =
    let is = is_both c.args.tree.now c.in-OverTwo.left c.in-OverTwo.right c.in-OverTwo.at (sym c.in-OverTwo.is ∙ c.parts.ensures.parts) in
    fields_both c.args.program.now c.args.tree.now c.in-OverTwo.left c.in-OverTwo.right c.in-OverTwo.at (has_field c.fill-on_left.result) (has_field c.fill-on_right.result) (has_field c.fill_root-in-OverTwo.result)
    is c.fill-on_left.ensures.attributes c.fill-on_right.ensures.attributes c.fill_root-in-OverTwo.ensures.attributes

pub returns-in-OverTwo-clause-table : goal.returns-in-OverTwo-clause-table
returns-in-OverTwo-clause-table t c =
    let is = is_both c.args.tree.now c.in-OverTwo.left c.in-OverTwo.right c.in-OverTwo.at (sym c.in-OverTwo.is ∙ c.parts.ensures.parts) in
    filled_both c.args.program.now c.args.tree.now c.in-OverTwo.left c.in-OverTwo.right c.in-OverTwo.at (has_field c.fill-on_left.result) (has_field c.fill-on_right.result)
    (facts_in c.args.table.now) (facts_in c.fill-on_right.new.table) (facts_in c.fill-on_left.new.table) (facts_in c.fill_root-in-OverTwo.new.table)
    is c.fill-on_left.ensures.attributes c.fill-on_right.ensures.attributes c.fill-on_right.ensures.table c.fill-on_left.ensures.table c.fill_root-in-OverTwo.ensures.table
