use Rattle.std.proofs.Common.{inl}
use Rattle.text_marks.specs.Samples.{sample_of}
use Rattle.text_marks.proofs.Listing.{if_accepted, pushed_listed, pushed_more}
use Rattle.text_marks.proofs.Trying.{one_expected}
use Rattle.text_marks.proofs.expecting.try_item.Goals as goal

pub returns-in_ok-push : goal.returns-in_ok-push
returns-in_ok-push c =
    let accepted = if_accepted c.args.mark.now.from c.args.mark.now.to (sample_of c.args.item) c.args.text.now c.in_ok-fits.field-0 c.if-branch.true c.in_ok-fits.ensures in
    record {
      more =
          pushed_more c.args.item c.args.found.now c.push.new.self c.in_ok-push.ensures.ok (one_expected c.args.mark.now.from c.args.mark.now.to c.args.text.now c.args.item c.requires.sample c.requires.fixed accepted);
      tried = inl (pushed_listed c.args.item c.args.found.now c.push.new.self c.in_ok-push.ensures.ok);
    }
