use Rattle.pact_record.specs.declared.values.Value.TheVariants.{Int}
use Rattle.csv_places.proofs.numbers.number_fault.Goals as goal

pub returns-in-Ok-clause-none : goal.returns-in-Ok-clause-none
returns-in-Ok-clause-none c = (Int c.in-Ok.field-0, c.in-Ok.ensures.number)
