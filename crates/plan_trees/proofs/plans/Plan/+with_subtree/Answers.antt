use Rattle.std.proofs.Common.{rules, sym, ◌∙◌}
use Rattle.plan_trees.proofs.ReplacedSubtrees.{in_left, in_right}
use Rattle.plan_trees.proofs.RootParts.{is_both}
use Rattle.plan_trees.proofs.plans.Plan.+with_subtree.Goals as goal

pub with_subtree-requires-then-has : goal.with_subtree-requires-then-has
with_subtree-requires-then-has t c =
    let whole = is_both c.args.self.now c.in-OverTwo.left c.in-OverTwo.right c.in-OverTwo.root (sym c.in-OverTwo.is ∙ c.parts.ensures.parts) in
    let there = sym c.has.ensures ∙ c.if-has.true in
    let part = in_left c.args.at c.in-OverTwo.root c.args.tree.now c.args.self.now c.in-OverTwo.left c.in-OverTwo.right whole c.if-at-root-2.true there c.requires.plan in
    let less = part.less in
    let plan = part.plan in
    search (rules, less, there, plan)

pub with_subtree-requires-else-has : goal.with_subtree-requires-else-has
with_subtree-requires-else-has t c =
    let whole = is_both c.args.self.now c.in-OverTwo.left c.in-OverTwo.right c.in-OverTwo.root (sym c.in-OverTwo.is ∙ c.parts.ensures.parts) in
    let absent = sym c.has.ensures ∙ c.if-has.false in
    let part = in_right c.args.at c.in-OverTwo.root c.args.tree.now c.args.self.now c.in-OverTwo.left c.in-OverTwo.right whole c.if-at-root-2.true absent c.requires.has c.requires.plan in
    let less = part.less in
    let there = part.there in
    let plan = part.plan in
    search (rules, less, there, plan)
