use Rattle.text_marks.proofs.Listing.{item_fixed, joined, none_more, words_next}
use Rattle.text_marks.proofs.expecting.try_words.Goals as goal

pub loop-word-init : goal.loop-word-init
loop-word-init c = (none_more c.args.found.now, tt)

pub loop-word-preserved : goal.loop-word-preserved
loop-word-preserved c = (
  joined c.loop-word.invariant.0 c.in_ok-try_item.ensures.more,
  words_next c.in_ok-try_item.ensures.more c.args.words.now c.loop-word.word-index _ c.loop-word-test.true c.loop-word.invariant.1 c.in_ok-try_item.ensures.tried,
)

pub try_item-requires-clause-fixed : goal.try_item-requires-clause-fixed
try_item-requires-clause-fixed c = item_fixed c.args.words.now c.loop-word.word-index _ c.loop-word-test.true c.requires.fixed
