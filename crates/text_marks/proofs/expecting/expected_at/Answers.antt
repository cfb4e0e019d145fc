use Rattle.text_marks.proofs.Listing.{later_any}
use Rattle.text_marks.proofs.expecting.expected_at.Goals as goal

pub returns-clause-whole : goal.returns-clause-whole
returns-clause-whole c = record { words = later_any c.in_ok-add_end.ensures.more c.in_ok-add_words.ensures.tried; end = c.in_ok-add_end.ensures.tried }
