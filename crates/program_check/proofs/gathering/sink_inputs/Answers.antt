use Rattle.pact_operators.specs.Resolved.{sink_inputs as listed}
use Rattle.program_check.proofs.NamedByDeclarations.{joined_more, sink_inputs-append}
use Rattle.program_check.proofs.gathering.sink_inputs.Goals as goal

pub loop-decl-preserved : goal.loop-decl-preserved
loop-decl-preserved c =
    joined_more listed c.args.decls.now c.loop-decl.decl-index c.decl-item.result c.loop-decl.names.items c.in_ok-names.names.items sink_inputs-append
    c.loop-decl-test.true c.decl-item.is c.loop-decl.invariant c.in_ok-names.ensures
