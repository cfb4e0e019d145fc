use Rattle.std.proofs.Common.{ap, sym, ◌∙◌}
use Rattle.plan_trees.specs.Plans.{PlanTree}
use Rattle.ship_strategy.specs.PlanFacts.{facts_of}
use Rattle.ship_strategy.specs.Ships.{is_legal}
use Rattle.ship_strategy.proofs.TestsOfEdges.{legal_says, legal_tests}
use Rattle.ship_strategy.proofs.legality.has_legal_edges.Goals as goal

pub returns : goal.returns
returns c =
    let p = c.args.program.now in
    let d = c.args.physical.now in
    let same = c.check_edges.ensures.legal
    ∙ (λ i. is_legal (c.known-table.ensures.value i) d (c.plan-2.ensures i))
    ∙ ap (λ (t : PlanTree). is_legal (facts_of p t) d d.tree) c.plan.ensures in (
      λ e. legal_says (facts_of p d.tree) d d.tree (sym same ∙ e),
      λ h. same ∙ legal_tests (facts_of p d.tree) d d.tree h,
    )
