use Rattle.std.proofs.Common.{arith}
use Rattle.tac_flow.specs.Known.{joined_known}
use Rattle.tac_flow.specs.Views.{known_of}
use Rattle.tac_flow.proofs.ListsSoFar.{zip_step, zip_done}
use Rattle.tac_flow.proofs.facts.join_values.Goals as goal

pub loop-n-preserved : goal.loop-n-preserved
loop-n-preserved c =
    zip_step known_of joined_known c.args.values.now c.loop-n.values c.args.others.now c.loop-n.n c.index-values-n.result c.index-others-n.result c.join.result c.loop-n.invariant c.requires (omega (arith, c.loop-n-test.true, c.loop-n.invariant.1)) c.index-others-n.is c.join.ensures

pub returns-clause-is : goal.returns-clause-is
returns-clause-is c = zip_done known_of joined_known c.args.values.now c.loop-n.values c.args.others.now c.loop-n.n c.loop-n.invariant c.requires (omega (arith, c.loop-n-test.false, c.loop-n.invariant.1))
