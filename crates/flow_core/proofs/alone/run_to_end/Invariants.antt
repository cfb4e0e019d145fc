use Rattle.flow_core.specs.Replays.{IsReached}
use Rattle.flow_core.proofs.alone.run_to_end.Given as goal

abbrev pub invariant-loop-turn : goal.invariant-loop-turn
invariant-loop-turn g l = IsReached l.fn.world l._turn l.world
