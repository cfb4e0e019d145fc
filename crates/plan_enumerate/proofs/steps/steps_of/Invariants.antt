use Rattle.std.proofs.Common.{◌<◌, length}
use Rattle.plan_enumerate.proofs.LeadingSteps.{LeadsOn}
use Rattle.plan_enumerate.proofs.steps.steps_of.Given as goal

abbrev pub invariant-loop-at : goal.invariant-loop-at
invariant-loop-at l = (l.at < length l.listed.entries) × LeadsOn l.listed.entries l.at l.entry l.conditions.items

abbrev pub decreases-loop-at : goal.decreases-loop-at
decreases-loop-at l = l.at
