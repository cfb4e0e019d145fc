use Rattle.std.proofs.Common.{◌≡◌, length, take, vec_capacity, vec_len}
use Rattle.pact_record.proofs.records.Record.copy.Given as goal

abbrev pub invariant-loop-value : goal.invariant-loop-value
invariant-loop-value l = (l.values.items ≡ take l.value-index l.value-items) × (vec_len l.values ≡ l.value-index) × (vec_capacity l.values ≡ length l.value-items)
