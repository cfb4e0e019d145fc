use Rattle.std.proofs.Common.{false, rules}
use Rattle.plan_trees.specs.Plans.{has, node_limit}
use Rattle.flow_core.proofs.TablesByNumber.{all_set, beyond, set_next}
use Rattle.flow_core.proofs.plan_tables.nodes_of.Goals as goal

pub loop-at-preserved : goal.loop-at-preserved
loop-at-preserved c =
    let i = c.loop-at.invariant in
    (search rules, set_next false (λ k. has k c.args.plan.now) c.loop-at.nodes c.loop-at.at c.has.result (search rules) i.1 c.has.ensures)

pub returns : goal.returns
returns c =
    let i = c.loop-at.invariant in
    all_set false (λ k. has k c.args.plan.now) c.loop-at.nodes c.loop-at.at node_limit (search rules) i.0 i.1 (λ at more. beyond c.args.plan.now at c.root-root.ensures.plan more)
