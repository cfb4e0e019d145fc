use Rattle.std.proofs.Common.{map}
use Rattle.program_check.specs.PlanReads.{inputs_as}
use Rattle.pact_operators.specs.Resolved.{inputs_of}
use Rattle.program_check.proofs.NamedByDeclarations.{joined_more}
use Rattle.program_check.proofs.OpsOfDeclarations.{inputs_of-append}
use Rattle.program_check.proofs.written_plans.all_reads.Goals as goal

pub loop-decl-preserved : goal.loop-decl-preserved
loop-decl-preserved c =
    joined_more (inputs_of c.args.nodes.now) c.args.decls.now c.loop-decl.decl-index c.decl-item.result (map inputs_as c.loop-decl.reads.items) (map inputs_as c.in_ok-reads.reads.items)
    (inputs_of-append c.args.nodes.now) c.loop-decl-test.true c.decl-item.is c.loop-decl.invariant c.in_ok-reads.ensures
