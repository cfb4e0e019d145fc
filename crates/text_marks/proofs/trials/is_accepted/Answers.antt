use Rattle.std.proofs.Common.{◌∙◌}
use Rattle.text_marks.proofs.Trying.{tried_again}
use Rattle.text_marks.proofs.trials.is_accepted.Goals as goal

pub returns-then-is_same : goal.returns-then-is_same
returns-then-is_same c =
    tried_again c.args.mark.now.from c.args.mark.now.to c.args.word.now c.bytes.result.now c.args.text.now c.line_number-line.result c.in_ok-fault.fault c.in_ok-completed.completed c.is_beyond.result
    c.in_ok-fault.ensures c.if-is_same.ensures.yes c.line_number-line.ensures (c.bytes.ensures ∙ c.in_ok-words.ensures) c.in_ok-completed.ensures c.is_beyond.ensures
