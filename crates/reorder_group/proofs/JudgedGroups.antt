-- What was checked for groups, by the numbers of the two operators, decides whether the exchange is legal or refused at
-- the place of the plan.
use Rattle.std.proofs.Common.{◌≡◌, ℕ, List, refl, sym, ap, subst, ◌∙◌}
use Rattle.plan_trees.specs.Plans.{PlanTree, root_of, subtree_of}
use Rattle.plan_trees.proofs.SubtreesOfPlans.{root_of-subtree}
use Rattle.pact_operators.specs.Programs.{ProgramData}
use Rattle.reorder_pair.specs.declared.finding.Found.{Found}
use Rattle.reorder_pair.specs.declared.legality.NotLegal.{NotLegal}
use Rattle.reorder_pair.specs.declared.rules.Rule.{Rule}
use Rattle.reorder_pair.specs.declared.rules.Rule.TheVariants.{ReduceMatchLeft, ReduceMatchLeftUp, ReduceMatchRight, ReduceMatchRightUp}
use Rattle.reorder_pair.specs.Conditions.{AllPass, FirstFails, Line, Uses, group_lines, own_lines, uses_of}
use Rattle.reorder_pair.specs.Legal.{IsFoundAt, IsLegalFor, IsRefusal}
use Rattle.reorder_pair.specs.Rules.{IsMapOrPairRule, exchanged_by}
use Rattle.reorder_pair.proofs.JudgedExchanges.{all-IsLegalFor, lines_alone, own-IsRefusal, shared_lines}

-- for a rule without a Match the rule's own conditions are those on groups
own_past_groups : (p : ProgramData) (rule : Rule) → IsMapOrPairRule rule → (before after : PlanTree) (upper lower : Uses) → group_lines p rule (root_of before) (root_of after) upper lower ≡ own_lines p rule before after upper lower
own_past_groups p ReduceMatchLeft i before after upper lower = absurd i
own_past_groups p ReduceMatchLeftUp i before after upper lower = absurd i
own_past_groups p ReduceMatchRight i before after upper lower = absurd i
own_past_groups p ReduceMatchRightUp i before after upper lower = absurd i
own_past_groups p rule i before after upper lower = refl

module _ (p : ProgramData) (plan : PlanTree) (at : ℕ) (rule : Rule) (mapped : IsMapOrPairRule rule) (below : ℕ) (after : PlanTree) (below_is : below ≡ root_of after) (after_is : after ≡ exchanged_by rule (subtree_of at plan))
    (upper lower : Found) (found : IsFoundAt p plan at rule upper lower) (shared : AllPass (shared_lines p plan at rule upper lower)) where
  same_lines : group_lines p rule at below (uses_of upper) (uses_of lower) ≡ lines_alone p plan at rule upper lower
  same_lines =
      let above = sym (root_of-subtree at plan found.place.node) in
      let lower_root = below_is ∙ ap root_of after_is in
      (λ i. group_lines p rule (above i) (lower_root i) (uses_of upper) (uses_of lower))
      ∙ own_past_groups p rule mapped (subtree_of at plan) (exchanged_by rule (subtree_of at plan)) (uses_of upper) (uses_of lower)

  pub judged_legal : AllPass (group_lines p rule at below (uses_of upper) (uses_of lower)) → IsLegalFor p plan at rule upper lower
  judged_legal h = all-IsLegalFor p plan at rule upper lower found shared (subst AllPass same_lines h)

  pub judged_refused : (why : NotLegal) → FirstFails (group_lines p rule at below (uses_of upper) (uses_of lower)) why → IsRefusal p plan at rule why
  judged_refused why h = own-IsRefusal p plan at rule upper lower why found shared (subst (λ (l : List Line). FirstFails l why) same_lines h)
