use Rattle.std.proofs.Common.{◌≡◌, ◌≤◌, true}
use Rattle.pact_record.specs.FieldSets.{has_field}
use Rattle.combine_rule.specs.Tests.{has_all}
use Rattle.combine_rule.proofs.fields.has_all.Given as goal

abbrev pub invariant-loop-k : goal.invariant-loop-k
invariant-loop-k l = (has_all l.k (has_field l.set) ≡ true) × (l.k ≤ l.fields)
