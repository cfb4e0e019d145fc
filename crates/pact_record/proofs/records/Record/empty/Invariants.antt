use Rattle.std.proofs.Common.{◌≡◌, replicate, vec_capacity, vec_len}
use Rattle.pact_record.specs.declared.values.Value.TheVariants.{Null}
use Rattle.pact_record.proofs.records.Record.empty.Given as goal

abbrev pub invariant-loop : goal.invariant-loop
invariant-loop l = (l.values.items ≡ replicate l.counter Null) × (vec_len l.values ≡ l.counter) × (vec_capacity l.values ≡ l.fields)
