use Rattle.std.proofs.Common.{length, take, vec_capacity, vec_len, ◌≡◌}
use Rattle.pact_record.specs.Record.{key_of}
use Rattle.pact_record.proofs.records.Record.key.Given as goal

abbrev pub invariant-loop-n : goal.invariant-loop-n
invariant-loop-n l = (l.values.items ≡ key_of (take l.n l.keys) l.self) × (vec_len l.values ≡ l.n) × (vec_capacity l.values ≡ length l.keys)
