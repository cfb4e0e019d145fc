use Rattle.std.proofs.Common.{ap, sym, ◌∙◌}
use Rattle.plan_trees.specs.Plans.{subtree_of}
use Rattle.flow_instance.proofs.PartsOfPlans.{has_input, has_left, has_right}
use Rattle.flow_instance.proofs.plan_parts.ports_of.Goals as goal

pub port_from-requires : goal.port_from-requires
port_from-requires c = has_input c.args.at c.in-OverOne.at c.args.physical.now.tree c.subtree.result c.in-OverOne.input (c.subtree.ensures ∙ ap (subtree_of c.args.at) c.plan.ensures) (sym c.in-OverOne.is ∙ c.parts.ensures.parts)

pub port_from-requires-in-OverTwo : goal.port_from-requires-in-OverTwo
port_from-requires-in-OverTwo c =
    has_left c.args.at c.in-OverTwo.at c.args.physical.now.tree c.subtree.result c.in-OverTwo.left c.in-OverTwo.right (c.subtree.ensures ∙ ap (subtree_of c.args.at) c.plan.ensures) (sym c.in-OverTwo.is ∙ c.parts.ensures.parts)

pub port_from-requires-in-OverTwo-2 : goal.port_from-requires-in-OverTwo-2
port_from-requires-in-OverTwo-2 c =
    has_right c.args.at c.in-OverTwo.at c.args.physical.now.tree c.subtree.result c.in-OverTwo.left c.in-OverTwo.right (c.subtree.ensures ∙ ap (subtree_of c.args.at) c.plan.ensures) (sym c.in-OverTwo.is ∙ c.parts.ensures.parts)
