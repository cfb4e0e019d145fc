use Rattle.std.proofs.Common.{◌↔◌, ℕ, IsTrue, subst}
use Rattle.pact_record.specs.FieldSets.{has_field}
use Rattle.plan_trees.specs.Plans.{PlanTree, subtree_of}
use Rattle.pact_operators.specs.Programs.{HasAttribute}
use Rattle.prune_fields.proofs.CutsFound.{spare_is}
use Rattle.prune_fields.proofs.pruning.has_spare.Goals as goal

pub returns : goal.returns
returns c =
    let p = c.args.program.now in
    let x = c.args.physical.now in
    let at = c.args.at in
    let own = c.attrs-attributes.result in
    let are =
    subst (λ (t : PlanTree). (k : ℕ) → IsTrue (has_field own k) ↔ HasAttribute p.functions p.ops
    (subtree_of at t) k) c.plan.ensures c.attrs-attributes.ensures in
    spare_is p c.requires.program x.tree at c.args.needed own c.is_subset.result c.requires.needed are c.is_subset.ensures.subset
