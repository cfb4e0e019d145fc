use Rattle.std.proofs.Common.{◌<◌, List, length, sym, subst}
use Rattle.std.specs.List.{AllByRecursion}
use Rattle.pact_record.specs.declared.values.Value.{Value}
use Rattle.pact_gen.specs.Generated.{listed}
use Rattle.pact_top.proofs.Drills.{listed_within}
use Rattle.pact_top.proofs.generating.generated_text.Goals as goal

pub write_fields-requires-clause-within : goal.write_fields-requires-clause-within
write_fields-requires-clause-within c =
    rw c.rows.ensures.rows
    (subst (λ (rows : List (List Value)). AllByRecursion (λ row. AllByRecursion (λ field. field < length row) listed) rows) (sym c.in_ok-made.ensures) (listed_within c.args.seed c.args.rows))

pub returns : goal.returns
returns c = rw (c.rows.ensures.rows, c.in_ok-made.ensures) at c.write_fields.ensures
