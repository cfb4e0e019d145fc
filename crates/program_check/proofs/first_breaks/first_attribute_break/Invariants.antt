use Rattle.std.proofs.Common.{[], take}
use Rattle.program_check.specs.ProgramRules.{NoneBreaks}
use Rattle.program_check.proofs.first_breaks.first_attribute_break.Given as goal

abbrev pub invariant-loop-n : goal.invariant-loop-n
invariant-loop-n l = NoneBreaks l.rule l.candidate.draft l.candidate.valids [] (take l.n l.decl-items)
