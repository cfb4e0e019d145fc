use Rattle.std.proofs.Common.{Ok, true≢false, sym, subst, ◌∙◌}
use Rattle.plan_trees.specs.Plans.{PlanTree}
use Rattle.swap_certificate.specs.Checks.{StepTo, is_legal, no_rule, not_legal, other_sets}
use Rattle.swap_certificate.proofs.CheckedSteps.{few_operators, no_operator-StepTo, nowhere-StepTo, shown-Asks, stated-IsFoundAt, stated-IsLegalFor, told-IsFoundAt, told-none}
use Rattle.swap_certificate.proofs.rechecking.check_step.Goals as goal

pub operator_named-requires : goal.operator_named-requires
operator_named-requires c =
    let p = c.args.program.now in
    record { few = few_operators p.functions p.ops c.ops.result.now c.args.plan.now c.ops.ensures.ops c.requires.plan c.root-root.ensures.plan }

pub returns-in_default-clause-step : goal.returns-in_default-clause-step
returns-in_default-clause-step c _ = no_rule (λ rule e. c.in_default.ensures.none rule (e ∙ sym c.bytes.ensures.text))

pub returns-in_default-operator_named-clause-step : goal.returns-in_default-operator_named-clause-step
returns-in_default-operator_named-clause-step c _ =
    no_operator-StepTo c.args.program.now c.args.plan.now c.args.step.now c.in-Some.rule c.args.number c.ops.result.now c.bytes-2.result.now
    (c.in-Some.ensures.some ∙ c.bytes.ensures.text) c.ops.ensures.ops c.bytes-2.ensures.text c.in_default-operator_named.ensures.none

pub returns-in_default-found-clause-step : goal.returns-in_default-found-clause-step
returns-in_default-found-clause-step c _ =
    let p = c.args.program.now in
    let t = c.args.plan.now in
    let s = c.args.step.now in
    let rule = c.in-Some.rule in
    let at = c.in-Some-operator_named.at in
    let asks = shown-Asks p s rule at _ _ _ c.ops.ensures.ops c.bytes.ensures.text c.bytes-2.ensures.text c.in-Some.ensures.some c.in-Some-operator_named.ensures.some in
    nowhere-StepTo p t s rule at c.args.number c.requires.names asks (told-none c.in-Ok.found _ c.in_default-found.is c.in-Ok.ensures.none).0

pub returns-then-not-are_stated-clause-step : goal.returns-then-not-are_stated-clause-step
returns-then-not-are_stated-clause-step c _ =
    let p = c.args.program.now in
    let t = c.args.plan.now in
    let s = c.args.step.now in
    let rule = c.in-Some.rule in
    let at = c.in-Some-operator_named.at in
    let asks = shown-Asks p s rule at _ _ _ c.ops.ensures.ops c.bytes.ensures.text c.bytes-2.ensures.text c.in-Some.ensures.some c.in-Some-operator_named.ensures.some in
    let both = c.in-Some-found in
    let found = told-IsFoundAt p t s rule at c.in-Ok.found both.upper both.lower both.is c.in-Ok.ensures.found in
    other_sets rule at both.upper both.lower asks found (λ same. true≢false (sym (c.are_stated.ensures.1 same) ∙ c.if-not-are_stated.true))

pub returns-in-Ok-legal_for-clause-step : goal.returns-in-Ok-legal_for-clause-step
returns-in-Ok-legal_for-clause-step c _ =
    let p = c.args.program.now in
    let t = c.args.plan.now in
    let s = c.args.step.now in
    let rule = c.in-Some.rule in
    let at = c.in-Some-operator_named.at in
    let asks = shown-Asks p s rule at _ _ _ c.ops.ensures.ops c.bytes.ensures.text c.bytes-2.ensures.text c.in-Some.ensures.some c.in-Some-operator_named.ensures.some in
    let both = c.in-Some-found in
    let found = told-IsFoundAt p t s rule at c.in-Ok.found both.upper both.lower both.is c.in-Ok.ensures.found in
    let there = stated-IsFoundAt p t s rule at both.upper both.lower found (c.are_stated.ensures.0 c.if-not-are_stated.false) in
    subst (λ (u : PlanTree). StepTo p c.args.number t s (Ok u)) (sym c.apply.ensures.swapped)
    (is_legal rule at asks (stated-IsLegalFor p t s rule at c.in-Ok-legal_for.field-0 c.in-Ok-legal_for.ensures.legal there))

pub returns-in-Err-clause-step : goal.returns-in-Err-clause-step
returns-in-Err-clause-step c _ =
    let p = c.args.program.now in
    let t = c.args.plan.now in
    let s = c.args.step.now in
    let rule = c.in-Some.rule in
    let at = c.in-Some-operator_named.at in
    let asks = shown-Asks p s rule at _ _ _ c.ops.ensures.ops c.bytes.ensures.text c.bytes-2.ensures.text c.in-Some.ensures.some c.in-Some-operator_named.ensures.some in
    let both = c.in-Some-found in
    let found = told-IsFoundAt p t s rule at c.in-Ok.found both.upper both.lower both.is c.in-Ok.ensures.found in
    let there = stated-IsFoundAt p t s rule at both.upper both.lower found (c.are_stated.ensures.0 c.if-not-are_stated.false) in
    not_legal rule at c.in-Err.why asks there c.in-Err.ensures.refused
