use Rattle.std.proofs.Common.{ap, ◌∙◌}
use Rattle.plan_trees.specs.Inserted.{inserted_above}
use Rattle.plan_trees.specs.Physicals.{PhysicalData}
use Rattle.plan_trees.proofs.InsertedPhysicals.{is_to_take, below_node, below_ship, below_moved, absent_under, put_in, plan_put_in, made_is, made_physical}
use Rattle.plan_trees.proofs.physicals.Physical.insert.Goals as goal

pub listed : goal.listed
listed c =
    let p = c.self.inside in
    let q : PhysicalData = record { tree = p.plan; workers = p.workers; ships = p.ships } in
    below_ship c.args.below c.args.new q (is_to_take c.args.below c.args.new q c.args.self.now c.self.view_is c.self.invariant c.requires.has c.requires.edge c.requires.new_below c.requires.absent)

pub bounds-self-inside-below : goal.bounds-self-inside-below
bounds-self-inside-below c =
    let p = c.self.inside in
    let q : PhysicalData = record { tree = p.plan; workers = p.workers; ships = p.ships } in
    below_node c.args.below c.args.new q (is_to_take c.args.below c.args.new q c.args.self.now c.self.view_is c.self.invariant c.requires.has c.requires.edge c.requires.new_below c.requires.absent)

pub over-above-requires-clause-absent : goal.over-above-requires-clause-absent
over-above-requires-clause-absent c =
    let p = c.self.inside in
    let q : PhysicalData = record { tree = p.plan; workers = p.workers; ships = p.ships } in
    absent_under c.args.below c.args.new q (is_to_take c.args.below c.args.new q c.args.self.now c.self.view_is c.self.invariant c.requires.has c.requires.edge c.requires.new_below c.requires.absent) c.subtree.result c.subtree.ensures

pub with_subtree-self-inside-requires-clause-plan : goal.with_subtree-self-inside-requires-clause-plan
with_subtree-self-inside-requires-clause-plan c =
    let p = c.self.inside in
    let q : PhysicalData = record { tree = p.plan; workers = p.workers; ships = p.ships } in
    plan_put_in c.args.below c.args.new q (is_to_take c.args.below c.args.new q c.args.self.now c.self.view_is c.self.invariant c.requires.has c.requires.edge c.requires.new_below c.requires.absent) c.subtree.result c.over-above.result c.subtree.ensures c.over-above.ensures

pub listed-3 : goal.listed-3
listed-3 c =
    let p = c.self.inside in
    let q : PhysicalData = record { tree = p.plan; workers = p.workers; ships = p.ships } in
    below_moved c.args.below c.args.new q (is_to_take c.args.below c.args.new q c.args.self.now c.self.view_is c.self.invariant c.requires.has c.requires.edge c.requires.new_below c.requires.absent) _

pub bounds-self-inside-below-2 : goal.bounds-self-inside-below-2
bounds-self-inside-below-2 c =
    let p = c.self.inside in
    let q : PhysicalData = record { tree = p.plan; workers = p.workers; ships = p.ships } in
    below_node c.args.below c.args.new q (is_to_take c.args.below c.args.new q c.args.self.now c.self.view_is c.self.invariant c.requires.has c.requires.edge c.requires.new_below c.requires.absent)

pub invariant_of-self : goal.invariant_of-self
invariant_of-self c =
    let p = c.self.inside in
    let q : PhysicalData = record { tree = p.plan; workers = p.workers; ships = p.ships } in
    let k = is_to_take c.args.below c.args.new q c.args.self.now c.self.view_is c.self.invariant c.requires.has c.requires.edge c.requires.new_below c.requires.absent in
    made_physical c.args.below c.args.new q k c.with_subtree-self-inside.result c.index-self-below.result
    (c.with_subtree-self-inside.ensures ∙ put_in c.args.below c.args.new q k c.subtree.result c.over-above.result c.subtree.ensures c.over-above.ensures)

pub returns-clause-value : goal.returns-clause-value
returns-clause-value c =
    let p = c.self.inside in
    let q : PhysicalData = record { tree = p.plan; workers = p.workers; ships = p.ships } in
    let k = is_to_take c.args.below c.args.new q c.args.self.now c.self.view_is c.self.invariant c.requires.has c.requires.edge c.requires.new_below c.requires.absent in
    made_is c.args.below c.args.new q k c.with_subtree-self-inside.result c.index-self-below.result
    (c.with_subtree-self-inside.ensures ∙ put_in c.args.below c.args.new q k c.subtree.result c.over-above.result c.subtree.ensures c.over-above.ensures)
    ∙ ap (inserted_above c.args.below c.args.new) c.self.view_is

pub returns-clause-physical : goal.returns-clause-physical
returns-clause-physical c =
    let p = c.self.inside in
    let q : PhysicalData = record { tree = p.plan; workers = p.workers; ships = p.ships } in
    let k = is_to_take c.args.below c.args.new q c.args.self.now c.self.view_is c.self.invariant c.requires.has c.requires.edge c.requires.new_below c.requires.absent in
    made_physical c.args.below c.args.new q k c.with_subtree-self-inside.result c.index-self-below.result
    (c.with_subtree-self-inside.ensures ∙ put_in c.args.below c.args.new q k c.subtree.result c.over-above.result c.subtree.ensures c.over-above.ensures)
