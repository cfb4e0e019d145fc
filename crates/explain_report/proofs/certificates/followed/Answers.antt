use Rattle.std.proofs.Common.{ap, Err}
use Rattle.explain_report.proofs.Following.{followed_text, unread_text}
use Rattle.explain_report.proofs.certificates.followed.Goals as goal

pub returns-in-Ok : goal.returns-in-Ok
returns-in-Ok c = followed_text c.args.program.now c.args.text.now c.in-Ok.certificate c.follow.result c.in-Ok.ensures.certificate c.follow.ensures

pub returns-in-Err : goal.returns-in-Err
returns-in-Err c = unread_text c.args.program.now c.args.text.now c.in-Err.not c.text_refusal.result (λ e. c.in-Err.ensures.shape (ap Err e)) c.text_refusal.ensures
