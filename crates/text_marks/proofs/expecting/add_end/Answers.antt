use Rattle.std.proofs.Common.{inl, subst}
use Rattle.text_marks.specs.Expecting.{TellsEnd}
use Rattle.text_marks.specs.declared.expected.Expected.TheVariants.{LineEnd}
use Rattle.text_marks.proofs.Listing.{pushed_among, pushed_more}
use Rattle.text_marks.proofs.expecting.add_end.Goals as goal

pub returns-in_ok-push : goal.returns-in_ok-push
returns-in_ok-push c = record {
  more = pushed_more LineEnd c.args.found.now c.push.new.self c.in_ok-push.ensures.ok (subst (TellsEnd c.args.mark.now.from c.args.text.now) c.if-branch.true c.in_ok-may_end.ensures);
  tried = inl (pushed_among LineEnd c.args.found.now c.push.new.self c.in_ok-push.ensures.ok);
}
