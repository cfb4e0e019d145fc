use Rattle.std.proofs.Common.{ap}
use Rattle.tac_text.specs.Places.{Build}
use Rattle.tac_text.specs.FunctionStates.{with_build}
use Rattle.tac_text.specs.FunctionLines.{header}
use Rattle.program_text.specs.ProgramStates.{of_function, open_function}
use Rattle.program_text.proofs.program_reading.open_words.Goals as goal

pub returns-clause-leads : goal.returns-clause-leads
returns-clause-leads c =
    let f = c.in_ok-function.function in
    let h = c.in_ok-function.ensures.header in
    (of_function (header f.name f.kind f.keys), h.0, h.1, ap (λ (b : Build). open_function c.args.draft (with_build f b)) h.2)
