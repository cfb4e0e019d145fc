use Rattle.program_check.specs.ProgramRules.{all_columns as listed}
use Rattle.program_check.proofs.NamedByDeclarations.{joined_more, all_columns-append}
use Rattle.program_check.proofs.gathering.all_columns.Goals as goal

pub loop-decl-preserved : goal.loop-decl-preserved
loop-decl-preserved c =
    joined_more listed c.args.decls.now c.loop-decl.decl-index c.decl-item.result c.loop-decl.fields.items c.in_ok-fields.fields.items all_columns-append
    c.loop-decl-test.true c.decl-item.is c.loop-decl.invariant c.in_ok-fields.ensures
