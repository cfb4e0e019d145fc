use Rattle.std.proofs.Common.{◌≡◌, ◌<◌, ℕ, true}
use Rattle.pact_record.specs.FieldSets.{has_field}
use Rattle.pact_record.specs.Record.{at_field}
use Rattle.pact_record.proofs.records.Record.agree.Given as goal

abbrev pub invariant-loop-field : goal.invariant-loop-field
invariant-loop-field l = (k : ℕ) → k < l.field → has_field l.fields k ≡ true → at_field l.self k ≡ at_field l.other k
