use Rattle.std.proofs.Common.{ap}
use Rattle.program_text.specs.ProgramStates.{drafted, field_count}
use Rattle.program_text.proofs.program_reading.second_words.Goals as goal

pub returns-in-Ok-clause-leads : goal.returns-in-Ok-clause-leads
returns-in-Ok-clause-leads c = (field_count c.in-Ok.fields, c.in-Ok.ensures.count.1, c.in-Ok.ensures.count.0, ap drafted c.new.ensures)
