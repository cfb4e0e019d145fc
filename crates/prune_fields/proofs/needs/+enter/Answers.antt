use Rattle.std.proofs.Common.{◌∙◌, sym}
use Rattle.pact_record.specs.FieldSets.{has_field}
use Rattle.plan_trees.proofs.RootParts.{is_both, is_leaf, is_over}
use Rattle.prune_fields.specs.NeedTables.{needs_in}
use Rattle.prune_fields.proofs.EnteredNeeds.{entered_both, entered_leaf, entered_over}
use Rattle.prune_fields.proofs.needs.+enter.Goals as goal

pub returns-in-Alone : goal.returns-in-Alone
returns-in-Alone t c =
    let is = is_leaf c.args.tree.now c.in-Alone.at (sym c.in-Alone.is ∙ c.parts.ensures.parts) in
    entered_leaf c.args.program.now c.args.tree.now c.in-Alone.at (has_field c.args.above) (needs_in c.args.table.now)
    (needs_in c.set.new.self) is c.set.ensures

pub returns-in-OverOne : goal.returns-in-OverOne
returns-in-OverOne t c =
    let is = is_over c.args.tree.now c.in-OverOne.input c.in-OverOne.at (sym c.in-OverOne.is ∙ c.parts.ensures.parts) in
    entered_over c.args.program.now c.args.tree.now c.in-OverOne.input c.in-OverOne.at (has_field c.args.above)
    (has_field c.needs_of_inputs-only.result.0) (needs_in c.args.table.now) (needs_in c.enter.new.table) (needs_in c.set-in-OverOne.new.self)
    is c.needs_of_inputs-only.ensures.left c.enter.ensures c.set-in-OverOne.ensures

pub returns-in-OverTwo : goal.returns-in-OverTwo
returns-in-OverTwo t c =
    let is = is_both c.args.tree.now c.in-OverTwo.left c.in-OverTwo.right c.in-OverTwo.at (sym c.in-OverTwo.is ∙ c.parts.ensures.parts) in
    entered_both c.args.program.now c.args.tree.now c.in-OverTwo.left c.in-OverTwo.right c.in-OverTwo.at (has_field c.args.above)
    (has_field c.needs_of_inputs-on_left.result.0) (has_field c.needs_of_inputs-on_left.result.1) (needs_in c.args.table.now)
    (needs_in c.enter-in-OverTwo.new.table) (needs_in c.enter-in-OverTwo-2.new.table) (needs_in c.set-in-OverTwo.new.self)
    is c.needs_of_inputs-on_left.ensures.left c.needs_of_inputs-on_left.ensures.right c.enter-in-OverTwo.ensures
    c.enter-in-OverTwo-2.ensures c.set-in-OverTwo.ensures
