use Rattle.std.proofs.Common.{None, rules}
use Rattle.plan_trees.specs.Plans.{node_limit}
use Rattle.flow_instance.specs.Worlds.{reader_of}
use Rattle.flow_core.proofs.TablesByNumber.{all_set, no_reader_beyond, set_next}
use Rattle.flow_core.proofs.plan_tables.readers_of.Goals as goal

pub loop-edge-preserved : goal.loop-edge-preserved
loop-edge-preserved c =
    let i = c.loop-edge.invariant in
    (search rules, set_next None (λ k. reader_of k c.args.plan.now) c.loop-edge.readers c.loop-edge.edge c.reader_of.result (search rules) i.1 c.reader_of.ensures)

pub returns : goal.returns
returns c =
    let i = c.loop-edge.invariant in
    all_set None (λ k. reader_of k c.args.plan.now) c.loop-edge.readers c.loop-edge.edge node_limit (search rules) i.0 i.1 (no_reader_beyond c.args.plan.now c.root-root.ensures.plan)
