use Rattle.std.proofs.Common.{rules, ◌≡◌, ◌-◌, ◌<◌, ℕ, Some, map, slice_get, ap, sym, subst, ◌∙◌, arith}
use Rattle.program_check.specs.declared.written_plans.Reads.TheVariants.{Nothing, One, Two}
use Rattle.plan_trees.specs.Distinct.{IsAbsent}
use Rattle.program_check.specs.PlanReads.{inputs_as}
use Rattle.plan_trees.specs.Plans.{PlanTree, both, over, nodes, root_of, IsPlan}
use Rattle.pact_operators.specs.Programs.{Follows}
use Rattle.pact_operators.specs.Resolved.{one_input, two_inputs}
use Rattle.plan_trees.specs.PlanCode.{some_node}
use Rattle.pact_operators.proofs.OnePlan.{same_tree}
use Rattle.program_check.proofs.PlannedInputs.{entry, one_planned, two_planned}
use Rattle.program_check.proofs.written_plans.+tree_at.Goals as goal

pub over-requires-clause-absent : goal.over-requires-clause-absent
over-requires-clause-absent t c =
    let inputs = map inputs_as c.args.reads.now in
    let read = entry c.args.reads.now c.args.at c.args.count Nothing (One c.in-One.input) c.requires c.in-One.is in
    let one = one_planned inputs c.args.at c.in-One.input c.args.count c.requires read in
    let same = same_tree inputs one.from.tree c.tree_at.result one.from.follows c.tree_at.ensures.follows (one.from.root ∙ sym c.tree_at.ensures.root) in
    subst (λ (u : PlanTree). IsAbsent c.args.at (nodes u)) same one.absent

pub tree_at-left-requires : goal.tree_at-left-requires
tree_at-left-requires t c =
    let read = entry c.args.reads.now c.args.at c.args.count Nothing (Two c.in-Two.left c.in-Two.right) c.requires c.in-Two.is in
    let two = two_planned (map inputs_as c.args.reads.now) c.args.at c.in-Two.left c.in-Two.right c.args.count c.requires read in
    let planned = two.from_left in
    let less : c.args.count - 1 < c.args.count = omega (arith, c.requires.few, some_node c.requires.tree) in
    search (rules, less, planned)

pub tree_at-right-requires : goal.tree_at-right-requires
tree_at-right-requires t c =
    let read = entry c.args.reads.now c.args.at c.args.count Nothing (Two c.in-Two.left c.in-Two.right) c.requires c.in-Two.is in
    let two = two_planned (map inputs_as c.args.reads.now) c.args.at c.in-Two.left c.in-Two.right c.args.count c.requires read in
    let planned = two.from_right in
    let less : c.args.count - 1 < c.args.count = omega (arith, c.requires.few, some_node c.requires.tree) in
    search (rules, less, planned)

pub pair-requires : goal.pair-requires
pair-requires t c =
    let inputs = map inputs_as c.args.reads.now in
    let read = entry c.args.reads.now c.args.at c.args.count Nothing (Two c.in-Two.left c.in-Two.right) c.requires c.in-Two.is in
    let two = two_planned inputs c.args.at c.in-Two.left c.in-Two.right c.args.count c.requires read in
    let left = same_tree inputs two.from_left.tree c.tree_at-left.result two.from_left.follows c.tree_at-left.ensures.follows (two.from_left.root ∙ sym c.tree_at-left.ensures.root) in
    let right = same_tree inputs two.from_right.tree c.tree_at-right.result two.from_right.follows c.tree_at-right.ensures.follows (two.from_right.root ∙ sym c.tree_at-right.ensures.root) in
    subst (λ (u : PlanTree). IsPlan (both c.args.at c.tree_at-left.result u)) right (subst (λ (u : PlanTree). IsPlan (both c.args.at u two.from_right.tree)) left two.plan)

pub returns-in-Nothing-clause-follows : goal.returns-in-Nothing-clause-follows
returns-in-Nothing-clause-follows t c =
    let inputs = map inputs_as c.args.reads.now in
    subst (Follows inputs) (sym c.leaf.ensures) (entry c.args.reads.now c.args.at c.args.count Nothing Nothing c.requires c.in-Nothing.is)

pub returns-in-One-clause-follows : goal.returns-in-One-clause-follows
returns-in-One-clause-follows t c =
    let inputs = map inputs_as c.args.reads.now in
    let read = entry c.args.reads.now c.args.at c.args.count Nothing (One c.in-One.input) c.requires c.in-One.is in
    let follows : Follows inputs (over c.args.at c.tree_at.result) = (read ∙ ap (λ (n : ℕ). Some (one_input n)) (sym c.tree_at.ensures.root), c.tree_at.ensures.follows) in
    subst (Follows inputs) (sym c.over.ensures) follows

pub returns-in-Two-clause-follows : goal.returns-in-Two-clause-follows
returns-in-Two-clause-follows t c =
    let inputs = map inputs_as c.args.reads.now in
    let read = entry c.args.reads.now c.args.at c.args.count Nothing (Two c.in-Two.left c.in-Two.right) c.requires c.in-Two.is in
    let left = sym c.tree_at-left.ensures.root in
    let right = sym c.tree_at-right.ensures.root in
    let here : slice_get inputs c.args.at ≡ Some (two_inputs (root_of c.tree_at-left.result) (root_of c.tree_at-right.result)) = read ∙ (λ i. Some (two_inputs (left i) (right i))) in
    let follows : Follows inputs (both c.args.at c.tree_at-left.result c.tree_at-right.result) = (here, c.tree_at-left.ensures.follows, c.tree_at-right.ensures.follows) in
    subst (Follows inputs) (sym c.pair.ensures) follows
