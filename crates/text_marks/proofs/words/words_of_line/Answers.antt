use Rattle.std.proofs.Common.{arith, inr, rules}
use Rattle.text_marks.proofs.FaultPlaces.{next_and}
use Rattle.text_marks.proofs.WordOrder.{words_and, words_wider}
use Rattle.text_marks.proofs.words.words_of_line.Goals as goal

pub loop-word-preserved : goal.loop-word-preserved
loop-word-preserved c = (
  c.in-Some-next_word.ensures.some.3,
  rw c.in_ok-push.ensures.items (words_and c.args.line c.in-Some.start c.loop-word.at c.in-Some.end c.loop-word.words.items c.in-Some-next_word.word c.loop-word.invariant.1 c.in-Some-next_word.ensures.some),
  rw c.in_ok-push.ensures.items (next_and c.args.text.now c.args.line c.in-Some.end c.in-Some.start c.loop-word.at c.loop-word.words.items c.in-Some-next_word.word c.loop-word.invariant.2 c.in-Some-next_word.ensures.next),
)

pub returns-clause-within : goal.returns-clause-within
returns-clause-within c =
    words_wider c.args.line 0 c.in-Some.start c.loop-word.at _ c.loop-word.words.items (omega arith) (omega (arith, c.loop-word.invariant.0, c.in-Some.ensures.inside.1)) c.loop-word.invariant.1

pub returns-clause-all : goal.returns-clause-all
returns-clause-all c = inr (c.in-Some.start, c.in-Some.end, c.loop-word.at, c.in-Some.ensures.line, c.loop-word.invariant.2, search rules)
