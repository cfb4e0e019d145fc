use Rattle.std.proofs.Common.{subst}
use Rattle.text_marks.specs.Marks.{HasFirst}
use Rattle.explain_report.specs.Explaining.{reads_of}
use Rattle.explain_report.proofs.Foretold.{if_ok, if_ok_both}
use Rattle.explain_report.proofs.TextStages.{text_with_fault, text_without_fault}
use Rattle.explain_report.proofs.loading.explain_read.Goals as goal

pub returns-in-Some : goal.returns-in-Some
returns-in-Some g c =
    let first = subst (HasFirst c.args.text.now) c.in-Some.is c.in_ok-first.ensures in
    if_ok c.faulty.result (λ e told. text_with_fault _ c.args.name.now c.args.text.now e c.in-Some.fault (reads_of c.args.work) first told) c.faulty.ensures

pub returns-in-None : goal.returns-in-None
returns-in-None g c =
    let first = subst (HasFirst c.args.text.now) c.in-None.is c.in_ok-first.ensures in
    if_ok_both c.explain_text.result (λ e told none. text_without_fault _ c.args.name.now c.args.text.now e (reads_of c.args.work) first told none) c.explain_text.ensures.told c.explain_text.ensures.spot
