use Rattle.std.proofs.Common.{List, ap, ◌∙◌}
use Rattle.pact_operators.specs.declared.operators.Op.{Op}
use Rattle.swap_certificate.specs.PlanLines.{line_of}
use Rattle.swap_certificate.proofs.WrittenSteps.{written-Checks, written-MayBeStated, written-certificate_of, written-next}
use Rattle.swap_certificate.proofs.making.certificate.Goals as goal

pub loop-condition-preserved : goal.loop-condition-preserved
loop-condition-preserved c =
    let made = c.in_ok-stated in
    written-next c.args.program.now c.args.by.now c.loop-condition.condition-index c.condition-item.result c.loop-condition.steps c.push.new.self made.field-0 c.condition-item.is
    c.loop-condition-test.true c.in_ok-push.ensures.ok made.ensures c.loop-condition.invariant

pub returns-clause-certificate : goal.returns-clause-certificate
returns-clause-certificate c =
    let p = c.args.program.now in
    let line = c.in_ok-plan.ensures ∙ ap (λ (ops : List Op). line_of ops c.args.end.now) c.ops.ensures.ops in
    written-certificate_of p c.args.by.now c.loop-condition.condition-index c.version.result c.version.ensures.version c.loop-condition.steps c.args.end.now c.in_ok-plan.plan c.loop-condition-test.false c.loop-condition.invariant line

pub returns-clause-accepted : goal.returns-clause-accepted
returns-clause-accepted c =
    let p = c.args.program.now in
    let line = c.in_ok-plan.ensures ∙ ap (λ (ops : List Op). line_of ops c.args.end.now) c.ops.ensures.ops in
    written-Checks p c.args.by.now c.loop-condition.condition-index c.version.result c.version.ensures.version c.loop-condition.steps c.args.end.now c.in_ok-plan.plan c.loop-condition-test.false c.loop-condition.invariant line

pub returns-clause-can_be_written : goal.returns-clause-can_be_written
returns-clause-can_be_written c =
    let p = c.args.program.now in
    let line = c.in_ok-plan.ensures ∙ ap (λ (ops : List Op). line_of ops c.args.end.now) c.ops.ensures.ops in
    written-MayBeStated p c.args.by.now c.loop-condition.condition-index c.version.result c.version.ensures.version c.loop-condition.steps c.args.end.now c.in_ok-plan.plan c.loop-condition-test.false c.loop-condition.invariant line
    c.version.ensures.keeps c.root-root.ensures.plan
