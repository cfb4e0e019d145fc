use Rattle.std.proofs.Common.{arith}
use Rattle.tac_flow.specs.Known.{joined_held}
use Rattle.tac_flow.specs.Views.{held_of}
use Rattle.tac_flow.proofs.ListsSoFar.{zip_step, zip_done}
use Rattle.tac_flow.proofs.facts.join_records.Goals as goal

pub loop-n-preserved : goal.loop-n-preserved
loop-n-preserved c =
    zip_step held_of (joined_held c.args.fields) c.args.records.now c.loop-n.records c.args.others.now c.loop-n.n c.index-records-n.result c.index-others-n.result c.join.result c.loop-n.invariant c.requires.len (omega (arith, c.loop-n-test.true, c.loop-n.invariant.1)) c.index-others-n.is c.join.ensures

pub returns-clause-is : goal.returns-clause-is
returns-clause-is c = zip_done held_of (joined_held c.args.fields) c.args.records.now c.loop-n.records c.args.others.now c.loop-n.n c.loop-n.invariant c.requires.len (omega (arith, c.loop-n-test.false, c.loop-n.invariant.1))
