use Rattle.std.proofs.Common.{◌≡◌, not, drop}
use Rattle.std.specs.List.{list_any}
use Rattle.tac_syntax.specs.Names.{is_digit}
use Rattle.text_lines.proofs.operands.are_digits.Given as goal

abbrev pub invariant-loop-byte : goal.invariant-loop-byte
invariant-loop-byte l = list_any (λ b. not (is_digit b)) (drop l.byte-index l.word) ≡ list_any (λ b. not (is_digit b)) l.word
