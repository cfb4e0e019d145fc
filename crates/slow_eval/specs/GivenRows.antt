-- Rows that an evaluation goes on with.
use Rattle.std.specs.Prelude.{List}
use Rattle.pact_record.specs.declared.values.Value.{Value}
use Rattle.slow_eval.specs.declared.given_rows.GivenRows.{GivenRows}
use Rattle.slow_eval.specs.declared.given_rows.GivenRows.TheVariants.{Lent, Own}

abbrev pub rows_of : GivenRows → List (List Value)
rows_of (Lent rows) = rows.now
rows_of (Own rows) = rows
