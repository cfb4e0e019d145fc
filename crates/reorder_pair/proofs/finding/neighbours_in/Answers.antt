use Rattle.std.proofs.Common.{◌≡◌, sym, ap, subst, ◌∙◌}
use Rattle.tac_syntax.specs.declared.declarations.OpKind.TheVariants.{Source}
use Rattle.plan_trees.specs.Plans.{root_of}
use Rattle.pact_operators.specs.PlanOps.{kind_at}
use Rattle.reorder_pair.proofs.FoundInContexts.{at_trees}
use Rattle.reorder_pair.proofs.PlacesOfRules.{lower-operator, upper-operator}
use Rattle.reorder_pair.proofs.finding.neighbours_in.Goals as goal

pub returns : goal.returns
returns c =
    let a = c.args in
    let r = c.requires in
    let p = a.program.now in
    let trees = a.trees.now in
    let upper = c.root-upper in
    let lower = c.root-lower in
    let of_upper = c.united_context in
    let of_lower = c.united_context-2 in
    let above = subst (λ n. kind_at p.ops n ≡ Source → ⊥) (sym upper.ensures.root) (upper-operator p a.plan.now a.at a.rule r.place trees.before trees.after r.before r.after) in
    let below = subst (λ n. kind_at p.ops n ≡ Source → ⊥) (sym lower.ensures.root) (lower-operator p a.plan.now a.at a.rule r.place trees.before trees.after r.before r.after) in
    record {
      place = r.place;
      upper = upper.ensures.root ∙ ap root_of r.before;
      lower = lower.ensures.root ∙ ap root_of r.after;
      upper_context = at_trees p a.plan.now a.rule a.at upper.result trees.before trees.after of_upper.result r.before r.after of_upper.ensures.union;
      lower_context = at_trees p a.plan.now a.rule a.at lower.result trees.before trees.after of_lower.result r.before r.after of_lower.ensures.union;
      upper_operator = record { operator = above; fields = of_upper.ensures.fields above };
      lower_operator = record { operator = below; fields = of_lower.ensures.fields below };
    }
