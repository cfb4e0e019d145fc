use Rattle.std.proofs.Common.{◌∙◌, ap}
use Rattle.plan_trees.specs.Plans.{over, both}
use Rattle.plan_trees.specs.declared.shapes.Shape.TheVariants.{IntoLeft}
use Rattle.plan_trees.proofs.BelowRoot.{left_plan}
use Rattle.plan_trees.proofs.ExchangedTrees.{exchanged-IsPlan-of}
use Rattle.plan_trees.proofs.RootParts.{is_over, is_both}
use Rattle.plan_trees.proofs.plans.Plan.into_left.Goals as goal

pub over-requires-clause-absent : goal.over-requires-clause-absent
over-requires-clause-absent c =
    let a = c.in-OverOne in
    let b = c.in-OverTwo in
    let whole = is_over c.args.self.now a.input a.upper a.ensures.parts ∙ ap (over a.upper) (is_both a.input b.left b.right b.lower b.ensures.parts) in
    (left_plan b.lower (over a.upper b.left) b.right (exchanged-IsPlan-of IntoLeft c.args.self.now (over a.upper (both b.lower b.left b.right)) whole a.ensures.plan)).different.0
