use Rattle.std.proofs.Common.{◌≡◌, map, take}
use Rattle.program_check.specs.ProgramRules.{is_operator, times_so}
use Rattle.program_check.specs.RuleTests.{reached_within}
use Rattle.program_check.proofs.reached.reached_operators.Given as goal

abbrev pub invariant-loop-decl : goal.invariant-loop-decl
invariant-loop-decl l =
    l.reached.items ≡ map (reached_within (times_so is_operator (take l.decl-index l.decl-items)) l.candidate.draft) l.candidate.draft.decls
