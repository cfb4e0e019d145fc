use Rattle.std.proofs.Common.{None, rules}
use Rattle.plan_trees.specs.Plans.{node_limit}
use Rattle.flow_core.specs.PlanTables.{input_in}
use Rattle.flow_core.proofs.TablesByNumber.{all_set, no_input_beyond, set_next}
use Rattle.flow_core.proofs.plan_tables.inputs_of.Goals as goal

pub loop-at-preserved : goal.loop-at-preserved
loop-at-preserved c =
    let i = c.loop-at.invariant in
    (search rules, set_next None (λ k. input_in c.args.plan.now k c.args.port) c.loop-at.inputs c.loop-at.at c.input_of.result (search rules) i.1 c.input_of.ensures)

pub returns : goal.returns
returns c =
    let i = c.loop-at.invariant in
    all_set None (λ k. input_in c.args.plan.now k c.args.port) c.loop-at.inputs c.loop-at.at node_limit (search rules) i.0 i.1 (no_input_beyond c.args.plan.now c.args.port c.root-root.ensures.plan)
