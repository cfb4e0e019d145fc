use Rattle.std.proofs.Common.{◌∙◌, ap, subst, sym}
use Rattle.plan_trees.specs.Plans.{PlanTree, both, IsPlan}
use Rattle.plan_trees.specs.declared.shapes.Shape.TheVariants.{ToLeft}
use Rattle.plan_trees.proofs.BelowRoot.{left_plan}
use Rattle.plan_trees.proofs.ExchangedTrees.{exchanged-IsPlan-of}
use Rattle.plan_trees.proofs.RootParts.{is_both}
use Rattle.plan_trees.proofs.plans.Plan.to_left.Goals as goal

pub pair-below-requires : goal.pair-below-requires
pair-below-requires c =
    let a = c.in-OverTwo in
    let b = c.in-OverTwo-parts in
    let whole = is_both c.args.self.now a.first a.right a.upper a.ensures.parts ∙ ap (both a.upper a.first) (is_both a.right b.middle b.last b.lower b.ensures.parts) in
    left_plan b.lower (both a.upper a.first b.middle) b.last
    (exchanged-IsPlan-of ToLeft c.args.self.now (both a.upper a.first (both b.lower b.middle b.last)) whole a.ensures.plan)

pub pair-requires : goal.pair-requires
pair-requires c =
    let a = c.in-OverTwo in
    let b = c.in-OverTwo-parts in
    let whole = is_both c.args.self.now a.first a.right a.upper a.ensures.parts ∙ ap (both a.upper a.first) (is_both a.right b.middle b.last b.lower b.ensures.parts) in
    subst (λ (z : PlanTree). IsPlan (both b.lower z b.last)) (sym c.pair-below.ensures)
    (exchanged-IsPlan-of ToLeft c.args.self.now (both a.upper a.first (both b.lower b.middle b.last)) whole a.ensures.plan)
