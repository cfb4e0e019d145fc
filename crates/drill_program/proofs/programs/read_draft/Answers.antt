use Rattle.std.proofs.Common.{refl}
use Rattle.std.specs.Fmt.{digits}
use Rattle.drill_program.specs.Drill.{drill_draft}
use Rattle.drill_program.proofs.MadeProgram.{text_is}
use Rattle.drill_program.proofs.programs.read_draft.Goals as goal

pub not_read-requires : goal.not_read-requires
unfolding digits
not_read-requires c = c.in-Err.ensures.draft_always drill_draft (text_is _ refl)

pub returns-in-Ok : goal.returns-in-Ok
unfolding digits
returns-in-Ok c = c.in-Ok.ensures.draft_always drill_draft (text_is _ refl)
