use Rattle.swap_certificate.proofs.WrittenSteps.{AreWritten}
use Rattle.swap_certificate.proofs.making.certificate.Given as goal

abbrev pub invariant-loop-condition : goal.invariant-loop-condition
invariant-loop-condition l = AreWritten l.program l.by l.condition-index l.steps
