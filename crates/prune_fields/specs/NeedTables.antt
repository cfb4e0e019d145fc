-- The needed fields by number, as a table has them.
use Rattle.std.specs.Prelude.{ℕ, Option, Some, None, slice_get}
use Rattle.pact_record.specs.FieldSets.{has_field}
use Rattle.tac_syntax.specs.Contexts.{FieldSet}
use Rattle.tac_flow.specs.Known.{no_fields}
use Rattle.prune_fields.specs.declared.need_tables.NeedTable.{NeedTable}

-- nothing is needed of a number that the table doesn't have
abbrev pub fields_in : Option ℕ → FieldSet
fields_in None = no_fields
fields_in (Some fields) = has_field fields

abbrev pub needs_in : NeedTable → ℕ → FieldSet
needs_in t n = fields_in (slice_get t.needs n)
