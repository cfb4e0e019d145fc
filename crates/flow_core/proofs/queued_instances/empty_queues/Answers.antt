use Rattle.std.proofs.Common.{◌∙◌, arith}
use Rattle.flow_core.proofs.queued_instances.empty_queues.Goals as goal

pub returns-clause-long : goal.returns-clause-long
returns-clause-long c = c.loop-receiver.invariant.0 ∙ omega (arith, c.loop-receiver-test.false, c.loop-receiver.auto._receiver-end)

pub returns-clause-empty : goal.returns-clause-empty
returns-clause-empty c = c.loop-receiver.invariant.1
