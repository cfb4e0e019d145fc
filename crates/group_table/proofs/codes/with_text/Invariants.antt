use Rattle.std.proofs.Common.{◌≡◌, take}
use Rattle.std.specs.Prelude.{fold}
use Rattle.group_table.specs.Codes.{mixed}
use Rattle.group_table.proofs.codes.with_text.Given as goal

abbrev pub invariant-loop-byte : goal.invariant-loop-byte
invariant-loop-byte l = l.hash ≡ fold mixed l.start (take l.byte-index l.bytes)
