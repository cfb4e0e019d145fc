use Rattle.batch_channel.proofs.Keeps.{puts, behind}
use Rattle.batch_channel.proofs.pipes.Pipe.put.Goals as goal

pub push_as-requires-clause-rule : goal.push_as-requires-clause-rule
push_as-requires-clause-rule g c = (puts _ _ _ _ _ c.end.invariant.0 c.requires.note, behind _ _ _ c.end.invariant.0)
