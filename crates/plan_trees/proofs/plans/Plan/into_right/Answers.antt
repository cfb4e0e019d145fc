use Rattle.std.proofs.Common.{◌∙◌, ap, subst, sym}
use Rattle.plan_trees.specs.Plans.{PlanTree, over, both, IsPlan}
use Rattle.plan_trees.specs.declared.shapes.Shape.TheVariants.{IntoRight}
use Rattle.plan_trees.proofs.BelowRoot.{right_plan}
use Rattle.plan_trees.proofs.ExchangedTrees.{exchanged-IsPlan-of}
use Rattle.plan_trees.proofs.RootParts.{is_over, is_both}
use Rattle.plan_trees.proofs.plans.Plan.into_right.Goals as goal

pub over-requires-clause-absent : goal.over-requires-clause-absent
over-requires-clause-absent c =
    let a = c.in-OverOne in
    let b = c.in-OverTwo in
    let whole = is_over c.args.self.now a.input a.upper a.ensures.parts ∙ ap (over a.upper) (is_both a.input b.left b.right b.lower b.ensures.parts) in
    (right_plan b.lower b.left (over a.upper b.right) (exchanged-IsPlan-of IntoRight c.args.self.now (over a.upper (both b.lower b.left b.right)) whole a.ensures.plan)).different.0

pub pair-requires : goal.pair-requires
pair-requires c =
    let a = c.in-OverOne in
    let b = c.in-OverTwo in
    let whole = is_over c.args.self.now a.input a.upper a.ensures.parts ∙ ap (over a.upper) (is_both a.input b.left b.right b.lower b.ensures.parts) in
    subst (λ (z : PlanTree). IsPlan (both b.lower b.left z)) (sym c.over.ensures)
    (exchanged-IsPlan-of IntoRight c.args.self.now (over a.upper (both b.lower b.left b.right)) whole a.ensures.plan)
