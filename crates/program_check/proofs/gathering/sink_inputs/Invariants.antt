use Rattle.std.proofs.Common.{◌≡◌, take}
use Rattle.pact_operators.specs.Resolved.{sink_inputs as listed}
use Rattle.program_check.proofs.gathering.sink_inputs.Given as goal

abbrev pub invariant-loop-decl : goal.invariant-loop-decl
invariant-loop-decl l = l.names.items ≡ listed (take l.decl-index l.decls)
