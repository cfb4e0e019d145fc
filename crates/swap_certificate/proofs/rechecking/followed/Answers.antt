use Rattle.std.proofs.Common.{List, Ok, Err, true≢false, sym, ap, subst, ◌∙◌}
use Rattle.pact_operators.specs.declared.operators.Op.{Op}
use Rattle.reorder_pair.specs.FindingTable.{AreFindings}
use Rattle.reorder_group.proofs.PlansInReach.{reached-IsPlanOf}
use Rattle.swap_certificate.specs.declared.certificates.CertFault.TheVariants.{C5}
use Rattle.swap_certificate.specs.Checks.{same_line}
use Rattle.swap_certificate.specs.PlanLines.{line_of}
use Rattle.swap_certificate.proofs.OneResult.{ok_or_err}
use Rattle.swap_certificate.proofs.FollowedSteps.{followed-end, followed-fault, followed-next, followed-start, found-EndsAt}
use Rattle.swap_certificate.proofs.rechecking.followed.Goals as goal

pub loop-step-init : goal.loop-step-init
loop-step-init c = (followed-start c.args.program.now c.args.c.now c.plan.result.now c.plan.ensures.plan, subst (AreFindings c.args.program.now) (sym c.new-findings.ensures) tt)

pub check_step-requires-clause-plan : goal.check_step-requires-clause-plan
check_step-requires-clause-plan c = reached-IsPlanOf c.args.program.now c.plan.ensures.keeps c.loop-step.plan c.loop-step.invariant.0.reached

pub loop-step-preserved : goal.loop-step-preserved
loop-step-preserved c =
    let at = c.loop-step in (
      followed-next c.args.program.now c.args.c.now c.steps-step-items.result.now c.steps-step-items.ensures at.step-index at.number at.plan at.invariant.0
          c.step-item.result c.step-item.is c.loop-step-test.true c.in-Ok.next (c.in-Ok.ensures.step (λ e. ok_or_err e)),
      c.in-Ok.ensures.findings,
    )

-- ---- a step with a fault

pub returns-in-Err-clause-checked : goal.returns-in-Err-clause-checked
returns-in-Err-clause-checked c memory =
    let at = c.loop-step in
    followed-fault c.args.program.now c.args.c.now c.steps-step-items.result.now c.steps-step-items.ensures at.step-index at.number at.plan at.invariant.0
    c.step-item.result c.step-item.is c.loop-step-test.true c.in-Err.fault (c.in-Err.ensures.step memory)

-- ---- after the last step

pub returns-then-is_line-clause-checked : goal.returns-then-is_line-clause-checked
returns-then-is_line-clause-checked c memory =
    let at = c.loop-step in
    let line = c.in-Ok-plan_line.ensures ∙ ap (λ (ops : List Op). line_of ops at.plan) c.ops.ensures.ops in
    let same = sym c.bytes-2.ensures ∙ c.is_line.ensures.0 c.if-is_line.true ∙ c.bytes.ensures ∙ line in
    followed-end c.args.program.now c.args.c.now c.steps-step-items.result.now c.steps-step-items.ensures at.step-index at.number at.plan at.invariant.0 (Ok at.plan) c.loop-step-test.false (same_line same)

pub returns-clause-checked : goal.returns-clause-checked
returns-clause-checked c memory =
    let at = c.loop-step in
    let line = c.in-Ok-plan_line.line in
    let line_is = c.in-Ok-plan_line.ensures ∙ ap (λ (ops : List Op). line_of ops at.plan) c.ops.ensures.ops in
    let ends = found-EndsAt c.args.program.now c.args.c.now at.plan line line_is
    (λ same. true≢false (sym (c.is_line.ensures.1 (c.bytes-2.ensures ∙ same ∙ sym c.bytes.ensures)) ∙ c.if-is_line.false)) in
    followed-end c.args.program.now c.args.c.now c.steps-step-items.result.now c.steps-step-items.ensures at.step-index at.number at.plan at.invariant.0 (Err (C5 line)) c.loop-step-test.false ends

pub returns-then-is_line-clause-line : goal.returns-then-is_line-clause-line
returns-then-is_line-clause-line c =
    let line = c.in-Ok-plan_line.ensures ∙ ap (λ (ops : List Op). line_of ops c.loop-step.plan) c.ops.ensures.ops in
    sym c.bytes-2.ensures ∙ c.is_line.ensures.0 c.if-is_line.true ∙ c.bytes.ensures ∙ line
