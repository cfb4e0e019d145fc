use Rattle.std.proofs.Common.{◌≡◌, map, take}
use Rattle.program_check.specs.RuleTests.{reached_within}
use Rattle.program_check.proofs.reached.none_reached.Given as goal

abbrev pub invariant-loop-decl : goal.invariant-loop-decl
invariant-loop-decl l = l.reached.items ≡ map (reached_within 0 l.candidate.draft) (take l._decl-index l._decl-items)
