use Rattle.std.proofs.lemmas.Bool.Decides.{same_from_decides}
use Rattle.plan_trees.specs.PlanEquality.{same_plan}
use Rattle.plan_trees.proofs.SamePlans.{arrays_decide, plan_decides}
use Rattle.plan_trees.proofs.ShownPlans.{told}
use Rattle.plan_trees.proofs.plans.PlanPartialEq.eq.Goals as goal

pub returns-clause-value : goal.returns-clause-value
returns-clause-value c =
    let t = c.args.self.now in
    let u = c.args.other.now in
    let left = told c.self.inside.nodes t c.self.invariant c.self.view_is in
    let right = told c.other.inside.nodes u c.other.invariant c.other.view_is in
    same_from_decides c.eq.result (same_plan t u) (arrays_decide c.self.inside.nodes c.other.inside.nodes t u c.eq.result left right c.eq.ensures) (plan_decides t u)

pub returns-clause-same : goal.returns-clause-same
returns-clause-same c =
    let t = c.args.self.now in
    let u = c.args.other.now in
    let left = told c.self.inside.nodes t c.self.invariant c.self.view_is in
    let right = told c.other.inside.nodes u c.other.invariant c.other.view_is in
    arrays_decide c.self.inside.nodes c.other.inside.nodes t u c.eq.result left right c.eq.ensures
