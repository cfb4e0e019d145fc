use Rattle.std.proofs.Common.{arith}
use Rattle.tac_flow.specs.Known.{dropped_held}
use Rattle.tac_flow.specs.Views.{held_of}
use Rattle.tac_flow.proofs.ListsSoFar.{map_step}
use Rattle.tac_flow.proofs.facts.drop_records.Goals as goal

pub loop-n-preserved : goal.loop-n-preserved
loop-n-preserved c =
    map_step held_of (dropped_held c.args.name) c.args.records.now c.loop-n.records c.loop-n.n c.index-records-n.result c.drop_name.result c.loop-n.invariant (omega (arith, c.loop-n-test.true, c.loop-n.invariant.1)) c.drop_name.ensures
