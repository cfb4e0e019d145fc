use Rattle.std.proofs.Common.{◌≡◌, take}
use Rattle.pact_record.specs.Hash.{key_hash}
use Rattle.pact_record.specs.Record.{key_of}
use Rattle.pact_record.proofs.records.Record.key_hash.Given as goal

abbrev pub invariant-loop-n : goal.invariant-loop-n
invariant-loop-n l = l.hash ≡ key_hash (key_of (take l.n l.keys) l.self)
