use Rattle.drill_program.proofs.MadeProgram.{functions_are, kept_in}
use Rattle.drill_program.proofs.programs.drill_program.Goals as goal

pub not_made-requires : goal.not_made-requires
not_made-requires c =
    let d = c.in_ok-draft.draft in
    let made = functions_are d c.functions_of.result.now c.fields.result c.in_ok-functions.functions c.in_ok-draft.ensures c.functions_of.ensures c.fields.ensures.fields c.in_ok-functions.ensures in
    c.in-Err.ensures.complete (kept_in d c.in_ok-functions.functions c.in_ok-draft.ensures made)
