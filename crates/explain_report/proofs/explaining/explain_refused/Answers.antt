use Rattle.explain_report.proofs.Foretold.{if_ok_both}
use Rattle.explain_report.proofs.explaining.explain_refused.Goals as goal

pub returns : goal.returns
returns c = if_ok_both c.of_refusal.result (λ e status text. (status, c.bytes.result.now, text)) c.of_refusal.ensures.status c.of_refusal.ensures.text
