use Rattle.std.proofs.Common.{◌≡◌, drop}
use Rattle.pact_record.specs.Record.{key_of}
use Rattle.pact_bag.specs.Pairs.{has_null}
use Rattle.pact_bag.proofs.null_keys.has_null.Given as goal

abbrev pub invariant-loop-n : goal.invariant-loop-n
invariant-loop-n l = has_null (key_of l.keys l.row) ≡ has_null (drop l.n (key_of l.keys l.row))
