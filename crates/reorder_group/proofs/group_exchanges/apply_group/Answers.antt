use Rattle.std.proofs.Common.{sym, subst}
use Rattle.plan_trees.specs.Plans.{PlanTree}
use Rattle.pact_operators.specs.Programs.{IsPlanOf}
use Rattle.reorder_pair.specs.Legal.{KeepAnswers}
use Rattle.reorder_pair.proofs.PlacedExchanges.{legal-IsPlanOf}
use Rattle.reorder_group.proofs.LegalPastGroups.{legal-KeepAnswers}
use Rattle.reorder_group.proofs.group_exchanges.apply_group.Goals as goal

pub returns-clause-answers : goal.returns-clause-answers
returns-clause-answers c =
    let a = c.args in
    subst (λ (t : PlanTree). KeepAnswers a.program.now a.plan.now t) (sym c.swapped_plan.ensures) (legal-KeepAnswers a.program.now c.fields-fields.ensures.keeps a.plan.now c.requires.plan a.at a.rule c.requires.rule c.requires.legal)

pub returns-clause-plan : goal.returns-clause-plan
returns-clause-plan c =
    let a = c.args in
    subst (IsPlanOf a.program.now.functions a.program.now.ops) (sym c.swapped_plan.ensures) (legal-IsPlanOf a.program.now c.fields-fields.ensures.keeps a.plan.now c.requires.plan a.at a.rule c.requires.legal)
