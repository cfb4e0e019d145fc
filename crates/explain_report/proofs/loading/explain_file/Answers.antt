use Rattle.explain_report.specs.Explaining.{reads_of}
use Rattle.explain_report.proofs.Foretold.{if_ok, if_ok_three}
use Rattle.explain_report.proofs.TextStages.{file_read, file_unread}
use Rattle.explain_report.proofs.loading.explain_file.Goals as goal

pub returns-in-Ok : goal.returns-in-Ok
returns-in-Ok g c = if_ok c.explain_read.result (λ e x. file_read c.args.name.now c.in-Ok.text (reads_of c.args.work) e c.in-Ok.ensures (rw (← c.bytes.ensures) x)) c.explain_read.ensures

pub returns-in-Err : goal.returns-in-Err
returns-in-Err g c =
    if_ok_three c.refused.result (λ e told cause none. file_unread c.args.name.now c.in-Err.refusal (reads_of c.args.work) e c.in-Err.ensures told cause none) c.refused.ensures.told c.refused.ensures.cause c.refused.ensures.spot
