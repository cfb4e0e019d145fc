use Rattle.plan_trees.proofs.InnerEdges.{inner_parts}
use Rattle.plan_trees.proofs.edges.parts_within.Goals as goal

pub returns-clause-inner : goal.returns-clause-inner
returns-clause-inner c = inner_parts c.args.physical.now.tree c.args.tree.now c.parts.result c.parts.ensures.parts c.parts.ensures.plan c.requires
