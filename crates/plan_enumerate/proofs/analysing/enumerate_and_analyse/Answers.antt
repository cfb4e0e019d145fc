use Rattle.reorder_group.proofs.PlansInReach.{reached-IsPlanOf, reached-KeepAnswers}
use Rattle.plan_enumerate.proofs.OneListing.{listing_is_one}
use Rattle.plan_enumerate.proofs.ReachedPlans.{complete-Reach, incomplete-IsOpen, listed-Reach}
use Rattle.plan_enumerate.proofs.analysing.enumerate_and_analyse.Goals as goal

pub returns-clause-only : goal.returns-clause-only
returns-clause-only c other k = listing_is_one c.args.program.now c.args.limit c.in_ok-listed.listed other c.in_ok-listed.ensures.listing k

pub returns-clause-incomplete : goal.returns-clause-incomplete
returns-clause-incomplete c = incomplete-IsOpen c.args.program.now c.args.limit c.in_ok-listed.listed c.in_ok-listed.ensures.listing

pub returns-clause-complete : goal.returns-clause-complete
returns-clause-complete c = complete-Reach c.args.program.now c.args.limit c.in_ok-listed.listed c.in_ok-listed.ensures.listing

pub returns-clause-reached : goal.returns-clause-reached
returns-clause-reached c = listed-Reach c.args.program.now c.args.limit c.in_ok-listed.listed.entries c.in_ok-listed.ensures.listing.grows

pub returns-clause-answers : goal.returns-clause-answers
returns-clause-answers c t listed = reached-KeepAnswers c.args.program.now c.fields-fields.ensures.keeps t (returns-clause-reached c t listed)

pub returns-clause-plans : goal.returns-clause-plans
returns-clause-plans c t listed = reached-IsPlanOf c.args.program.now c.fields-fields.ensures.keeps t (returns-clause-reached c t listed)
