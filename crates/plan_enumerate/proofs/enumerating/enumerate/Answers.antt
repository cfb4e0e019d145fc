use Rattle.std.proofs.lemmas.Result.{IfOk-weaker}
use Rattle.reorder_group.proofs.PlansInReach.{reached-IsPlanOf, reached-KeepAnswers}
use Rattle.plan_enumerate.proofs.OneListing.{listing_is_one}
use Rattle.plan_enumerate.proofs.ReachedPlans.{complete-Reach, incomplete-IsOpen, listed-Reach}
use Rattle.plan_enumerate.proofs.enumerating.enumerate.Goals as goal

pub returns-clause-only : goal.returns-clause-only
returns-clause-only c = IfOk-weaker c.list_plans.result _ _ (λ l h other k. listing_is_one c.args.program.now c.args.limit l other h k) c.list_plans.ensures.listing

pub returns-clause-incomplete : goal.returns-clause-incomplete
returns-clause-incomplete c = IfOk-weaker c.list_plans.result _ _ (λ l h. incomplete-IsOpen c.args.program.now c.args.limit l h) c.list_plans.ensures.listing

pub returns-clause-complete : goal.returns-clause-complete
returns-clause-complete c = IfOk-weaker c.list_plans.result _ _ (λ l h. complete-Reach c.args.program.now c.args.limit l h) c.list_plans.ensures.listing

pub returns-clause-reached : goal.returns-clause-reached
returns-clause-reached c = IfOk-weaker c.list_plans.result _ _ (λ l h. listed-Reach c.args.program.now c.args.limit l.entries h.grows) c.list_plans.ensures.listing

pub returns-clause-answers : goal.returns-clause-answers
returns-clause-answers c =
    let p = c.args.program.now in
    IfOk-weaker c.list_plans.result _ _ (λ l h t listed. reached-KeepAnswers p c.fields-fields.ensures.keeps t (listed-Reach p c.args.limit l.entries h.grows t listed)) c.list_plans.ensures.listing

pub returns-clause-plans : goal.returns-clause-plans
returns-clause-plans c =
    let p = c.args.program.now in
    IfOk-weaker c.list_plans.result _ _ (λ l h t listed. reached-IsPlanOf p c.fields-fields.ensures.keeps t (listed-Reach p c.args.limit l.entries h.grows t listed)) c.list_plans.ensures.listing
