use Rattle.std.proofs.Common.{arith}
use Rattle.pact_load.proofs.SourcesByName.{named_here, named_not, none_named}
use Rattle.pact_load.proofs.named_sources.number_of.Goals as goal

pub returns-then-is_named-clause-some : goal.returns-then-is_named-clause-some
returns-then-is_named-clause-some c =
    named_here c.args.ops.now c.args.name.now c.loop-at.at c.index-ops-at.result c.is_named.result c.loop-at-test.true c.index-ops-at.is c.is_named.ensures c.if-is_named.true

pub loop-at-preserved : goal.loop-at-preserved
loop-at-preserved c =
    named_not c.args.ops.now c.args.name.now c.loop-at.at c.index-ops-at.result c.is_named.result c.loop-at-test.true c.index-ops-at.is c.is_named.ensures c.if-is_named.false
    c.loop-at.invariant

pub returns-clause-none : goal.returns-clause-none
returns-clause-none c = none_named c.args.ops.now c.args.name.now c.loop-at.at (omega (arith, c.loop-at-test.false)) c.loop-at.invariant
