use Rattle.std.proofs.Common.{◌∙◌, ap, subst, sym}
use Rattle.plan_trees.specs.Distinct.{IsAbsent}
use Rattle.plan_trees.specs.Plans.{PlanTree, over, both, nodes}
use Rattle.plan_trees.specs.declared.shapes.Shape.TheVariants.{OutOfRight}
use Rattle.plan_trees.proofs.BelowRoot.{input_plan}
use Rattle.plan_trees.proofs.ExchangedTrees.{exchanged-IsPlan-of}
use Rattle.plan_trees.proofs.RootParts.{is_over, is_both}
use Rattle.plan_trees.proofs.plans.Plan.out_of_right.Goals as goal

pub pair-requires : goal.pair-requires
pair-requires c =
    let a = c.in-OverTwo in
    let b = c.in-OverOne in
    let whole = is_both c.args.self.now a.left a.right a.upper a.ensures.parts ∙ ap (both a.upper a.left) (is_over a.right b.input b.lower b.ensures.parts) in
    input_plan b.lower (both a.upper a.left b.input) (exchanged-IsPlan-of OutOfRight c.args.self.now (both a.upper a.left (over b.lower b.input)) whole a.ensures.plan)

pub over-requires-clause-absent : goal.over-requires-clause-absent
over-requires-clause-absent c =
    let a = c.in-OverTwo in
    let b = c.in-OverOne in
    let whole = is_both c.args.self.now a.left a.right a.upper a.ensures.parts ∙ ap (both a.upper a.left) (is_over a.right b.input b.lower b.ensures.parts) in
    subst (λ (z : PlanTree). IsAbsent b.lower (nodes z)) (sym c.pair.ensures)
    (exchanged-IsPlan-of OutOfRight c.args.self.now (both a.upper a.left (over b.lower b.input)) whole a.ensures.plan).different.0
