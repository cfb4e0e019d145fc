use Rattle.text_marks.specs.declared.expected.Expected.TheVariants.{Number}
use Rattle.text_marks.proofs.Listing.{pushed_listed}
use Rattle.text_marks.proofs.expecting.add_range.Goals as goal

pub returns-clause-listed : goal.returns-clause-listed
returns-clause-listed c = pushed_listed (Number c.args.low c.in_ok-high.high) c.args.found.now c.push.new.self c.in_ok-push.ensures.ok
