use Rattle.std.proofs.Common.{List, ℕ, subst, refl}
use Rattle.std.specs.Str.Parse.{ParsesUnsigned}
use Rattle.std.proofs.lemmas.Str.Parse.{parse_gives}
use Rattle.text_lines.proofs.DigitWords.{own_digits, no_other, some_digit, IsUtf8-are_digits}
use Rattle.text_lines.proofs.operands.number_of.Goals as goal

pub returns-in-Err-clause-fits : goal.returns-in-Err-clause-fits
returns-in-Err-clause-fits c h small = absurd (c.in-Err.ensures.cases.0 (IsUtf8-are_digits c.args.word.now h))

pub returns-in-Ok-clause-fits : goal.returns-in-Ok-clause-fits
returns-in-Ok-clause-fits c h small =
    let parsed = subst (λ (text : List ℕ). ParsesUnsigned 64 10 text c.parse.result) c.in-Ok.ensures.cases.0 c.parse.ensures.value.0 in
    let word = c.args.word.now in
    let p = parse_gives own_digits 64 word c.parse.result parsed (no_other word h) (some_digit word h) small in
    rw (c.ok.ensures.value, p) refl
