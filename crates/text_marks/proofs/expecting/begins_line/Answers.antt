use Rattle.text_marks.proofs.Listing.{begins_before}
use Rattle.text_marks.proofs.expecting.begins_line.Goals as goal

pub returns-in-Some-next_word : goal.returns-in-Some-next_word
returns-in-Some-next_word c =
    begins_before c.args.mark.now.from c.line_number-line.result c.in-Some.start c.in-Some.end c.args.text.now c.in-Some-next_word.first c.line_number-line.ensures c.in-Some.ensures.line c.in-Some-next_word.ensures.next
