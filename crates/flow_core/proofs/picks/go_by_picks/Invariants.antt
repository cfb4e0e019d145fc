use Rattle.flow_core.specs.Picks.{IsLed}
use Rattle.flow_core.proofs.picks.go_by_picks.Given as goal

abbrev pub invariant-loop-pick : goal.invariant-loop-pick
invariant-loop-pick g l = IsLed l.fn.world l.world
