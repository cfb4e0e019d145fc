use Rattle.std.proofs.Common.{◌≡◌, drop}
use Rattle.tac_syntax.specs.Names.{all_bytes, is_file_byte}
use Rattle.tac_syntax.proofs.names.are_file_bytes.Given as goal

abbrev pub invariant-loop-byte : goal.invariant-loop-byte
invariant-loop-byte l = all_bytes is_file_byte (drop l.byte-index l.bytes) ≡ all_bytes is_file_byte l.bytes
