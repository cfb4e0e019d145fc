use Rattle.std.proofs.Common.{subst}
use Rattle.text_marks.specs.Marks.{HasFirst}
use Rattle.text_marks.specs.TextParts.{cut_text}
use Rattle.text_marks.proofs.Listing.{tells_end}
use Rattle.text_marks.proofs.expecting.may_end.Goals as goal

pub returns-in-Some : goal.returns-in-Some
returns-in-Some c =
    tells_end c.args.mark.now.from c.args.text.now c.in-Some.fault c.line_number.result c.line_number.ensures (subst (HasFirst (cut_text c.args.mark.now.from c.args.text.now)) c.in-Some.is c.in_ok-fault_up_to.ensures)
