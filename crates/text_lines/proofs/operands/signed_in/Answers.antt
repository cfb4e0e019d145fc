use Rattle.std.proofs.Common.{◌≡◌, ℕ, ◌∷◌, ap, ◌∙◌}
use Rattle.text_lines.proofs.FilledSlots.{signed_bare, signed_minus}
use Rattle.text_lines.proofs.operands.signed_in.Goals as goal

pub returns-in-Some : goal.returns-in-Some
returns-in-Some c =
    let digits = c.in-Some-eq45-default.digits.now in
    let all : c.args.word.now ≡ 45 ∷ digits = c.in-Some-eq45-default.ensures.cases.0 ∙ ap (λ (b : ℕ). b ∷ digits) c.in-Some-eq45-default.field-0-0-test in
    let read = c.in-Some.ensures.some in
    signed_minus c.args.word.now digits c.in-Some.size all read.0 read.1 read.2 read.3

pub returns-in-Some-number_between : goal.returns-in-Some-number_between
returns-in-Some-number_between c = let read = c.in-Some-number_between.ensures.some in signed_bare c.args.word.now c.in-Some-number_between.number read.0 read.2
