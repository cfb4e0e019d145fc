use Rattle.std.proofs.Common.{rules, ◌≡◌, ◌≢◌, true, false, sym, ◌∙◌}
use Rattle.pact_record.specs.FieldSets.{has_field}
use Rattle.plan_trees.specs.Plans.{has}
use Rattle.plan_trees.proofs.RootParts.{is_both, is_over}
use Rattle.prune_fields.proofs.NeedsFound.{below_left, below_one, below_right}
use Rattle.prune_fields.proofs.needs.+need_from.Goals as goal

pub returns-else-at-root : goal.returns-else-at-root
returns-else-at-root t c =
    let is = is_over c.args.tree.now c.in-OverOne.input c.in-OverOne.root (sym c.in-OverOne.is ∙ c.parts.ensures.parts) in
    let other : c.args.at ≢ c.in-OverOne.root = search (rules, c.if-at-root.false) in
    below_one c.args.program.now c.args.tree.now c.in-OverOne.input c.in-OverOne.root c.args.at c.args.above c.needs_of_inputs-only.result.0
    (has_field c.need_from.result) is other
    c.needs_of_inputs-only.ensures.left c.need_from.ensures

pub returns-then-has : goal.returns-then-has
returns-then-has t c =
    let is = is_both c.args.tree.now c.in-OverTwo.left c.in-OverTwo.right c.in-OverTwo.root (sym c.in-OverTwo.is ∙ c.parts.ensures.parts) in
    let other : c.args.at ≢ c.in-OverTwo.root = search (rules, c.if-at-root-2.false) in
    let there : has c.args.at c.in-OverTwo.left ≡ true = search (rules, c.if-has.true, c.has.ensures) in
    below_left c.args.program.now c.args.tree.now c.in-OverTwo.left c.in-OverTwo.right c.in-OverTwo.root c.args.at c.args.above
    c.needs_of_inputs-on_left.result.0 (has_field c.need_from-then-has.result) is other there
    c.needs_of_inputs-on_left.ensures.left c.need_from-then-has.ensures

pub returns-else-has : goal.returns-else-has
returns-else-has t c =
    let is = is_both c.args.tree.now c.in-OverTwo.left c.in-OverTwo.right c.in-OverTwo.root (sym c.in-OverTwo.is ∙ c.parts.ensures.parts) in
    let other : c.args.at ≢ c.in-OverTwo.root = search (rules, c.if-at-root-2.false) in
    let elsewhere : has c.args.at c.in-OverTwo.left ≡ false = search (rules, c.if-has.false, c.has.ensures) in
    below_right c.args.program.now c.args.tree.now c.in-OverTwo.left c.in-OverTwo.right c.in-OverTwo.root c.args.at c.args.above
    c.needs_of_inputs-on_left.result.1 (has_field c.need_from-else-has.result) is other elsewhere
    c.needs_of_inputs-on_left.ensures.right c.need_from-else-has.ensures
