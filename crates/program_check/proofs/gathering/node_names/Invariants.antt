use Rattle.std.proofs.Common.{◌≡◌, take}
use Rattle.pact_operators.specs.Resolved.{node_names as listed}
use Rattle.program_check.proofs.gathering.node_names.Given as goal

abbrev pub invariant-loop-decl : goal.invariant-loop-decl
invariant-loop-decl l = l.names.items ≡ listed (take l.decl-index l.decls)
