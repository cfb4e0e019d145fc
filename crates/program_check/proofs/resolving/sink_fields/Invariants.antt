use Rattle.std.proofs.Common.{◌≡◌, drop}
use Rattle.pact_operators.specs.Resolved.{sink_fields as listed}
use Rattle.program_check.proofs.resolving.sink_fields.Given as goal

abbrev pub invariant-loop-decl : goal.invariant-loop-decl
invariant-loop-decl l = listed (drop l.decl-index l.decls) ≡ listed l.decls
