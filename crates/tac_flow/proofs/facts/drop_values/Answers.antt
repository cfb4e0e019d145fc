use Rattle.std.proofs.Common.{arith}
use Rattle.tac_flow.specs.Known.{dropped_known}
use Rattle.tac_flow.specs.Views.{known_of}
use Rattle.tac_flow.proofs.ListsSoFar.{map_step}
use Rattle.tac_flow.proofs.facts.drop_values.Goals as goal

pub loop-n-preserved : goal.loop-n-preserved
loop-n-preserved c =
    map_step known_of (dropped_known c.args.name) c.args.values.now c.loop-n.values c.loop-n.n c.index-values-n.result c.drop_name.result c.loop-n.invariant (omega (arith, c.loop-n-test.true, c.loop-n.invariant.1)) c.drop_name.ensures
