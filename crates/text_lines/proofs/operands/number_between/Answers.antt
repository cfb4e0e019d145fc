use Rattle.std.proofs.Common.{◌≡◌, true, arith}
use Rattle.std.proofs.lemmas.Grind.{common_steps}
use Rattle.text_lines.specs.Digits.{is_in_range}
use Rattle.text_lines.proofs.DigitWords.{number_in, number_read}
use Rattle.text_lines.proofs.operands.number_between.Goals as goal

pub returns-in-Some-clause-some : goal.returns-in-Some-clause-some
returns-in-Some-clause-some c =
    let word = c.args.word.now in
    let found : (c.in-Some.number ≡ number_in word) × (is_in_range c.args.low c.args.high word ≡ true) = grind (arith, common_steps) in
    let read = number_read c.args.low c.args.high c.in-Some.number word (omega arith) found.0 found.1 in
    (read.0, read.1, read.2, found.1)
