use Rattle.std.proofs.Common.{◌∙◌, ap, subst, sym}
use Rattle.plan_trees.specs.Plans.{PlanTree, both, IsPlan}
use Rattle.plan_trees.specs.declared.shapes.Shape.TheVariants.{ToRight}
use Rattle.plan_trees.proofs.BelowRoot.{right_plan}
use Rattle.plan_trees.proofs.ExchangedTrees.{exchanged-IsPlan-of}
use Rattle.plan_trees.proofs.RootParts.{is_both}
use Rattle.plan_trees.proofs.plans.Plan.to_right.Goals as goal

pub pair-below-requires : goal.pair-below-requires
pair-below-requires c =
    let a = c.in-OverTwo in
    let b = c.in-OverTwo-parts in
    let whole = is_both c.args.self.now a.left a.last a.upper a.ensures.parts ∙ ap (λ (z : PlanTree). both a.upper z a.last) (is_both a.left b.first b.middle b.lower b.ensures.parts) in
    right_plan b.lower b.first (both a.upper b.middle a.last)
    (exchanged-IsPlan-of ToRight c.args.self.now (both a.upper (both b.lower b.first b.middle) a.last) whole a.ensures.plan)

pub pair-requires : goal.pair-requires
pair-requires c =
    let a = c.in-OverTwo in
    let b = c.in-OverTwo-parts in
    let whole = is_both c.args.self.now a.left a.last a.upper a.ensures.parts ∙ ap (λ (z : PlanTree). both a.upper z a.last) (is_both a.left b.first b.middle b.lower b.ensures.parts) in
    subst (λ (z : PlanTree). IsPlan (both b.lower b.first z)) (sym c.pair-below.ensures)
    (exchanged-IsPlan-of ToRight c.args.self.now (both a.upper (both b.lower b.first b.middle) a.last) whole a.ensures.plan)
