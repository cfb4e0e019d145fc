use Rattle.std.proofs.Common.{◌≡◌, ◌∷◌, flat_map, take}
use Rattle.text_lines.specs.CanonicalLines.{escaped}
use Rattle.tac_text.proofs.statement_writing.literal_of.Given as goal

abbrev pub invariant-loop-byte : goal.invariant-loop-byte
invariant-loop-byte l = l.word ≡ 34 ∷ flat_map escaped (take l.byte-index l.text)
