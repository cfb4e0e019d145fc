use Rattle.std.proofs.Common.{◌↔◌, ◌⊎◌, ℕ, IsTrue, drop}
use Rattle.pact_record.specs.FieldSets.{has_field}
use Rattle.pact_bag.specs.SourceRows.{IsColumnField}
use Rattle.pact_operators.proofs.attributes.column_fields.Given as goal

abbrev pub invariant-loop-column : goal.invariant-loop-column
invariant-loop-column l = (k : ℕ) → (IsTrue (has_field l.found k) ⊎ IsColumnField k (drop l.column-index l.columns)) ↔ IsColumnField k l.columns
