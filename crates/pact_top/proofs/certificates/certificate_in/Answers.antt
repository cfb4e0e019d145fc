use Rattle.std.proofs.Common.{Err, ap}
use Rattle.pact_top.proofs.CertificateEnds.{unread-Decides}
use Rattle.pact_top.proofs.certificates.certificate_in.Goals as goal

pub returns-in-Err : goal.returns-in-Err
returns-in-Err c = unread-Decides c.args.text.now c.in-Err.not c.certificate_unread.result (λ e. c.in-Err.ensures.shape (ap Err e)) c.certificate_unread.ensures
