use Rattle.program_text.proofs.WrittenPrograms.{all_written, first_written}
use Rattle.program_text.proofs.program_writing.write_program.Goals as goal

pub loop-decl-init : goal.loop-decl-init
loop-decl-init c =
    first_written c.args.draft.now c.functions_of-functions.result.now c.decls-decl-items.result.now c.version.result c.fields.result c.in_ok-out.out c.functions_of-functions.ensures c.decls-decl-items.ensures.decls c.version.ensures.version c.fields.ensures.fields c.decls-decl-items.ensures.spelled
    c.in_ok-out.ensures

pub returns-clause-read_again : goal.returns-clause-read_again
returns-clause-read_again c =
    all_written c.args.draft.now c.functions_of-functions.result.now c.decls-decl-items.result.now c.loop-decl.decl-index c.loop-decl.out c.functions_of-functions.ensures c.loop-decl-test.false c.decls-decl-items.ensures.spelled c.tell_nesting.ensures
    c.loop-decl.invariant.0
