use Rattle.std.proofs.Common.{◌∙◌, sym}
use Rattle.tac_flow.specs.Views.{found_of}
use Rattle.ship_strategy.proofs.FactsInContext.{known_for, known_there}
use Rattle.plan_enumerate.proofs.AnalysedPlans.{found_sets, source_sets}
use Rattle.plan_enumerate.proofs.analysing.facts_there.Goals as goal

pub returns-in-Source-clause-facts : goal.returns-in-Source-clause-facts
returns-in-Source-clause-facts c =
    let p = c.args.program.now in
    let n = c.args.at in
    let kind = c.kind_of-kind.ensures in
    let x = c.context-context.ensures in
    let sets = source_sets p n c.context-context.result.left c.context-context.result.right (found_of c.nothing_found.result) c.nothing_found.ensures (sym kind ∙ c.in-Source.is) in
    known_there p c.args.plan.now n _ c.context-context.result c.requires.place x.left x.right (c.of.ensures ∙ known_for p n c.kind_of-kind.result c.context-context.result _ kind x.left_keys x.right_keys sets)

pub returns-in_ok-found-in_default : goal.returns-in_ok-found-in_default
returns-in_ok-found-in_default c =
    let p = c.args.program.now in
    let n = c.args.at in
    let kind = c.kind_of-kind.ensures in
    let x = c.context-context.ensures in
    let found = c.in_ok-found-in_default in
    let sets = found_sets p n c.context-context.result x.left_keys x.right_keys c.fields-fields.ensures.keeps (λ source. c.in_default.not-Source (kind ∙ source)) found.found found.ensures.found in
    record {
      facts = known_there p c.args.plan.now n _ c.context-context.result c.requires.place x.left x.right
          (c.of-in_default.ensures ∙ known_for p n c.kind_of-kind.result c.context-context.result _ kind x.left_keys x.right_keys sets);
      findings = found.ensures.findings;
    }
