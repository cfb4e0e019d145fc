use Rattle.reorder_pair.specs.FindingTable.{AreFindings}
use Rattle.swap_certificate.proofs.FollowedSteps.{IsFollowed}
use Rattle.swap_certificate.proofs.rechecking.followed.Given as goal

abbrev pub invariant-loop-step : goal.invariant-loop-step
invariant-loop-step l = IsFollowed l.program l.c l.step-index l.number l.plan × AreFindings l.program l.findings
