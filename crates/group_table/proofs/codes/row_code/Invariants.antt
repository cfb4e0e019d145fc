use Rattle.std.proofs.Common.{◌≡◌, take}
use Rattle.pact_record.specs.Record.{key_of}
use Rattle.group_table.specs.Codes.{code}
use Rattle.group_table.proofs.codes.row_code.Given as goal

abbrev pub invariant-loop-n : goal.invariant-loop-n
invariant-loop-n l = l.hash ≡ code (key_of (take l.n l.keys) l.row)
