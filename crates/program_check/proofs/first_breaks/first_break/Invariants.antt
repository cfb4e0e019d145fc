use Rattle.std.proofs.Common.{◌≡◌, [], take}
use Rattle.program_check.specs.ProgramRules.{NoneBreaks}
use Rattle.program_check.specs.RuleTests.{counts_of}
use Rattle.program_check.proofs.first_breaks.first_break.Given as goal

abbrev pub invariant-loop-n : goal.invariant-loop-n
invariant-loop-n l = (l.counts ≡ counts_of (take l.n l.decl-items)) × NoneBreaks l.rule l.candidate.draft l.candidate.valids [] (take l.n l.decl-items)
