use Rattle.std.proofs.Common.{List, map}
use Rattle.tac_syntax.specs.declared.declarations.Decl.{Decl}
use Rattle.pact_operators.specs.Resolved.{ops_of}
use Rattle.program_check.specs.WrittenOps.{with_small_keys}
use Rattle.program_check.proofs.NamedByDeclarations.{joined_more}
use Rattle.program_check.proofs.OpsOfDeclarations.{small-append}
use Rattle.program_check.proofs.resolving.small_ops.Goals as goal

pub loop-decl-preserved : goal.loop-decl-preserved
loop-decl-preserved c =
    joined_more (λ (decls : List Decl). map with_small_keys (ops_of c.args.functions.now decls)) c.args.decls.now c.loop-decl.decl-index c.decl-item.result c.loop-decl.ops.items
    c.in_ok-ops.ops.items (small-append c.args.functions.now) c.loop-decl-test.true c.decl-item.is c.loop-decl.invariant c.in_ok-ops.ensures
