use Rattle.std.proofs.Common.{length, take, vec_capacity, vec_len, ◌≡◌}
use Rattle.pact_record.specs.Record.{joined_record}
use Rattle.pact_record.proofs.records.Record.join.Given as goal

abbrev pub invariant-loop-field : goal.invariant-loop-field
invariant-loop-field l = (l.values.items ≡ take l.field (joined_record l.left l.right)) × (vec_len l.values ≡ l.field) × (vec_capacity l.values ≡ length l.left)
