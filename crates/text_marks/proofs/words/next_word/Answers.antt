use Rattle.text_marks.proofs.LineScans.{next_found, none_found}
use Rattle.text_marks.proofs.words.next_word.Goals as goal

pub returns-then-begins_word-clause-next : goal.returns-then-begins_word-clause-next
returns-then-begins_word-clause-next c = next_found c.args.text.now c.args.line c.args.at c.args.end c.gap_length-gap.result c.word_length.result c.requires.0 c.gap_length-gap.ensures.gap c.word_length.ensures.word

pub returns-clause-none : goal.returns-clause-none
returns-clause-none c = none_found c.args.text.now c.args.at c.args.end c.gap_length-gap.result c.requires.0 c.gap_length-gap.ensures.gap (c.if-begins_word.ensures.no)
