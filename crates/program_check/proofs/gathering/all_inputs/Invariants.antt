use Rattle.std.proofs.Common.{◌≡◌, take}
use Rattle.program_check.specs.ProgramRules.{all_inputs as listed}
use Rattle.program_check.proofs.gathering.all_inputs.Given as goal

abbrev pub invariant-loop-decl : goal.invariant-loop-decl
invariant-loop-decl l = l.names.items ≡ listed (take l.decl-index l.decls)
