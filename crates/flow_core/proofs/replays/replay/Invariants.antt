use Rattle.std.proofs.Common.{take}
use Rattle.flow_core.specs.Replays.{IsReplayed}
use Rattle.flow_core.proofs.replays.replay.Given as goal

abbrev pub invariant-loop-index : goal.invariant-loop-index
invariant-loop-index g l = IsReplayed l.fn.world (take l.index l.events) l.world
