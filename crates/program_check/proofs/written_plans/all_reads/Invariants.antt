use Rattle.std.proofs.Common.{◌≡◌, map, take}
use Rattle.program_check.specs.PlanReads.{inputs_as}
use Rattle.pact_operators.specs.Resolved.{inputs_of}
use Rattle.program_check.proofs.written_plans.all_reads.Given as goal

abbrev pub invariant-loop-decl : goal.invariant-loop-decl
invariant-loop-decl l = map inputs_as l.reads.items ≡ inputs_of l.nodes (take l.decl-index l.decls)
