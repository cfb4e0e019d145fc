use Rattle.std.proofs.Common.{rules}
use Rattle.text_marks.proofs.LineScans.{other_word, quoted_word}
use Rattle.text_marks.proofs.words.word_length.Goals as goal

pub returns-then-byte-eq34-clause-word : goal.returns-then-byte-eq34-clause-word
returns-then-byte-eq34-clause-word c = quoted_word c.args.bytes.now c.in-Some.behind.now c.in-Some.byte.now c.literal_length.result (search rules) (search rules) c.literal_length.ensures.literal

pub returns-clause-word : goal.returns-clause-word
returns-clause-word c = other_word c.args.bytes.now c.in-Some.behind.now c.in-Some.byte.now c.plain_length.result (search rules) (search rules) c.requires c.plain_length.ensures.plain
