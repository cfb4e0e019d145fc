use Rattle.flow_run.proofs.Turning.{Turned}
use Rattle.flow_run.proofs.turns.turn.Given as goal

abbrev pub invariant-loop-at : goal.invariant-loop-at
invariant-loop-at g l = Turned l.pipes l.context.number g.W.Width.fields l.fn.instances l.fn.puts l.fn.takes l.instances l.puts l.takes l.attempt l.at
