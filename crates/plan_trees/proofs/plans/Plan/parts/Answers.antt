use Rattle.std.proofs.Common.{◌≡◌, ap, sym, ◌∙◌, arith}
use Rattle.plan_trees.specs.Plans.{PlanTree}
use Rattle.plan_trees.specs.PlanParts.{parts_of}
use Rattle.plan_trees.specs.declared.plans.Parts.TheVariants.{OverOne, OverTwo}
use Rattle.plan_trees.specs.Preorders.{tree_of}
use Rattle.plan_trees.proofs.ShownPlans.{told, is_root, within_plan, one_input, two_inputs, moved, shows_plan, tree_is}
use Rattle.plan_trees.proofs.plans.Plan.parts.Goals as goal

pub at-middle-requires : goal.at-middle-requires
at-middle-requires c =
    let plan = told c.self.inside.nodes c.args.self.now c.self.invariant c.self.view_is in
    let root = is_root c.self.inside.nodes c.args.self.now c.at-root.result plan c.at-root.ensures in
    omega arith

pub overflow_add-middle : goal.overflow_add-middle
overflow_add-middle c =
    let plan = told c.self.inside.nodes c.args.self.now c.self.invariant c.self.view_is in
    let end = within_plan c.self.inside.nodes c.args.self.now c.at-middle.result plan c.at-middle.ensures in
    omega arith

pub part-requires-clause-end : goal.part-requires-clause-end
part-requires-clause-end c =
    let plan = told c.self.inside.nodes c.args.self.now c.self.invariant c.self.view_is in
    within_plan c.self.inside.nodes c.args.self.now c.at-middle.result plan c.at-middle.ensures

pub invariant_of-first : goal.invariant_of-first
invariant_of-first c =
    let plan = told c.self.inside.nodes c.args.self.now c.self.invariant c.self.view_is in
    let one = one_input c.self.inside.nodes c.args.self.now c.at-root.result c.at-middle.result plan c.at-root.ensures c.at-middle.ensures c.if-middle-root.true in
    shows_plan c.part.result one.input (moved c.part.ensures one.shown)

pub returns-then-middle-root-clause-parts : goal.returns-then-middle-root-clause-parts
returns-then-middle-root-clause-parts c =
    let plan = told c.self.inside.nodes c.args.self.now c.self.invariant c.self.view_is in
    let one = one_input c.self.inside.nodes c.args.self.now c.at-root.result c.at-middle.result plan c.at-root.ensures c.at-middle.ensures c.if-middle-root.true in
    let input : tree_of c.part.result ≡ one.input = tree_is c.part.result one.input (moved c.part.ensures one.shown) in
    ap (λ (t : PlanTree). OverOne c.at-root.result.at t) input ∙ ap parts_of (sym one.is)

pub part-requires-2-clause-order : goal.part-requires-2-clause-order
part-requires-2-clause-order c =
    let plan = told c.self.inside.nodes c.args.self.now c.self.invariant c.self.view_is in
    let root = is_root c.self.inside.nodes c.args.self.now c.at-root.result plan c.at-root.ensures in
    let end = within_plan c.self.inside.nodes c.args.self.now c.at-middle.result plan c.at-middle.ensures in
    omega arith

pub part-requires-2-clause-end : goal.part-requires-2-clause-end
part-requires-2-clause-end c =
    let plan = told c.self.inside.nodes c.args.self.now c.self.invariant c.self.view_is in
    let root = is_root c.self.inside.nodes c.args.self.now c.at-root.result plan c.at-root.ensures in
    omega arith

pub invariant_of-first-2 : goal.invariant_of-first-2
invariant_of-first-2 c =
    let plan = told c.self.inside.nodes c.args.self.now c.self.invariant c.self.view_is in
    let two = two_inputs c.self.inside.nodes c.args.self.now c.at-root.result c.at-middle.result plan c.at-root.ensures c.at-middle.ensures c.if-middle-root.false in
    shows_plan c.part.result two.left (moved c.part.ensures two.shown_left)

pub invariant_of-second : goal.invariant_of-second
invariant_of-second c =
    let plan = told c.self.inside.nodes c.args.self.now c.self.invariant c.self.view_is in
    let two = two_inputs c.self.inside.nodes c.args.self.now c.at-root.result c.at-middle.result plan c.at-root.ensures c.at-middle.ensures c.if-middle-root.false in
    shows_plan c.part-2.result two.right (moved c.part-2.ensures two.shown_right)

pub returns-clause-parts : goal.returns-clause-parts
returns-clause-parts c =
    let plan = told c.self.inside.nodes c.args.self.now c.self.invariant c.self.view_is in
    let two = two_inputs c.self.inside.nodes c.args.self.now c.at-root.result c.at-middle.result plan c.at-root.ensures c.at-middle.ensures c.if-middle-root.false in
    let left : tree_of c.part.result ≡ two.left = tree_is c.part.result two.left (moved c.part.ensures two.shown_left) in
    let right : tree_of c.part-2.result ≡ two.right = tree_is c.part-2.result two.right (moved c.part-2.ensures two.shown_right) in
    (λ i. OverTwo c.at-root.result.at (left i) (right i)) ∙ ap parts_of (sym two.is)
