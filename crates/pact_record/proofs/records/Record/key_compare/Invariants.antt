use Rattle.std.proofs.Common.{◌≡◌, drop}
use Rattle.pact_record.specs.Record.{key_of, record_cmp}
use Rattle.pact_record.proofs.records.Record.key_compare.Given as goal

abbrev pub invariant-loop-n : goal.invariant-loop-n
invariant-loop-n l = record_cmp (key_of l.keys l.self) (key_of l.other_keys l.other) ≡ record_cmp (drop l.n (key_of l.keys l.self)) (drop l.n (key_of l.other_keys l.other))
