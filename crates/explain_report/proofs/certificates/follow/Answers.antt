use Rattle.explain_report.proofs.Following.{follow_fault}
use Rattle.explain_report.proofs.certificates.follow.Goals as goal

pub returns-in-Err : goal.returns-in-Err
returns-in-Err c = follow_fault c.args.program.now c.args.certificate.now c.in-Err.fault c.fault_refusal.result c.in-Err.ensures.checked c.fault_refusal.ensures
