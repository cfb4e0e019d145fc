use Rattle.flow_run.proofs.WorkersInTurn.{HaveWorked}
use Rattle.flow_run.proofs.schedules.work_in_turn.Given as goal

abbrev pub invariant-loop-at : goal.invariant-loop-at
invariant-loop-at g l = HaveWorked g.W.Width.fields l.pipes l.at l.fn.workers.items l.workers.items
