use Rattle.std.proofs.Common.{◌≡◌, map, take}
use Rattle.pact_operators.specs.Resolved.{ops_of}
use Rattle.program_check.specs.WrittenOps.{with_small_keys}
use Rattle.program_check.proofs.resolving.small_ops.Given as goal

abbrev pub invariant-loop-decl : goal.invariant-loop-decl
invariant-loop-decl l = l.ops.items ≡ map with_small_keys (ops_of l.functions (take l.decl-index l.decls))
