use Rattle.pact_operators.specs.Resolved.{node_names as listed}
use Rattle.program_check.proofs.NamedByDeclarations.{joined_more, node_names-append}
use Rattle.program_check.proofs.gathering.node_names.Goals as goal

pub loop-decl-preserved : goal.loop-decl-preserved
loop-decl-preserved c =
    joined_more listed c.args.decls.now c.loop-decl.decl-index c.decl-item.result c.loop-decl.names.items c.in_ok-names.names.items node_names-append
    c.loop-decl-test.true c.decl-item.is c.loop-decl.invariant c.in_ok-names.ensures
