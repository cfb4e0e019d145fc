use Rattle.std.proofs.Common.{◌↔◌, ℕ, IsTrue, subst}
use Rattle.pact_record.specs.FieldSets.{has_field}
use Rattle.plan_trees.specs.Plans.{PlanTree, subtree_of}
use Rattle.pact_operators.specs.Programs.{HasAttribute}
use Rattle.ship_strategy.proofs.PlanAttributes.{own_below, own_set}
use Rattle.ship_strategy.proofs.knowing.own_fields.Goals as goal

pub returns-clause-own : goal.returns-clause-own
returns-clause-own c =
    let p = c.args.program.now in
    own_set p c.args.at c.attrs.result
    (subst (λ (t : PlanTree). (k : ℕ) → IsTrue (has_field c.attrs.result k) ↔ HasAttribute p.functions p.ops (subtree_of c.args.at t) k) c.leaf.ensures c.attrs.ensures)

pub returns-clause-below : goal.returns-clause-below
returns-clause-below c =
    let p = c.args.program.now in
    own_below p c.args.at c.attrs.result c.fields-fields.ensures.keeps
    (subst (λ (t : PlanTree). (k : ℕ) → IsTrue (has_field c.attrs.result k) ↔ HasAttribute p.functions p.ops (subtree_of c.args.at t) k) c.leaf.ensures c.attrs.ensures)
