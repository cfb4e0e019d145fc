use Rattle.pact_record.specs.FieldSets.{has_field}
use Rattle.prune_fields.proofs.KeepBodies.{IsBegun}
use Rattle.prune_fields.proofs.keeping.keep_body.Given as goal

abbrev pub invariant-loop-field : goal.invariant-loop-field
invariant-loop-field l = IsBegun (has_field l.kept) l.fields l.field l.body
