-- What was checked over the trees before and after decides whether the exchange is legal or refused at the place of the
-- plan.
use Rattle.std.proofs.Common.{◌≡◌, ◌↔◌, ℕ, List, sym, subst, ◌∙◌}
use Rattle.plan_trees.specs.Plans.{PlanTree, subtree_of}
use Rattle.pact_operators.specs.Programs.{ProgramData}
use Rattle.reorder_pair.specs.declared.finding.Found.{Found}
use Rattle.reorder_pair.specs.declared.legality.NotLegal.{NotLegal}
use Rattle.reorder_pair.specs.declared.rules.Rule.{Rule}
use Rattle.reorder_pair.specs.Conditions.{AllPass, FirstFails, Line, own_lines, uses_of}
use Rattle.reorder_pair.specs.Legal.{IsFoundAt, IsLegalFor, IsRefusal}
use Rattle.reorder_pair.specs.Rules.{exchanged_by}
use Rattle.reorder_pair.specs.Unique.{IsUniqueTree}
use Rattle.reorder_group.specs.OtherSides.{IsOtherUnique, other_input, other_keys}
use Rattle.reorder_pair.proofs.JudgedExchanges.{all-IsLegalFor, lines_alone, own-IsRefusal, shared_lines}

-- what is known of the other side at the place, stated for these trees
pub other_in_trees : (p : ProgramData) (plan : PlanTree) (at : ℕ) (rule : Rule) (before after : PlanTree) → before ≡ subtree_of at plan → after ≡ exchanged_by rule (subtree_of at plan) → (B : Type 0)
    → B ↔ IsOtherUnique p plan at rule → B ↔ IsUniqueTree p (other_keys p rule before after) (other_input rule before after)
other_in_trees p plan at rule before after before_is after_is B h =
    subst (λ (U : Type 0). B ↔ U) (λ i. IsUniqueTree p (other_keys p rule (sym before_is i) (sym after_is i)) (other_input rule (sym before_is i) (sym after_is i))) h

-- and in the other direction
pub other_at_place : (p : ProgramData) (plan : PlanTree) (at : ℕ) (rule : Rule) (before after tree : PlanTree) (keys : List ℕ) → before ≡ subtree_of at plan → after ≡ exchanged_by rule (subtree_of at plan)
    → tree ≡ other_input rule before after → keys ≡ other_keys p rule before after → (B : Type 0) → B ↔ IsUniqueTree p keys tree → B ↔ IsOtherUnique p plan at rule
other_at_place p plan at rule before after tree keys before_is after_is tree_is keys_is B h =
    subst (λ (U : Type 0). B ↔ U) ((λ i. IsUniqueTree p (keys_is i) (tree_is i)) ∙ (λ i. IsUniqueTree p (other_keys p rule (before_is i) (after_is i)) (other_input rule (before_is i) (after_is i)))) h

module _ (p : ProgramData) (plan : PlanTree) (at : ℕ) (rule : Rule) (before after : PlanTree) (before_is : before ≡ subtree_of at plan) (after_is : after ≡ exchanged_by rule (subtree_of at plan))
    (upper lower : Found) (found : IsFoundAt p plan at rule upper lower) (shared : AllPass (shared_lines p plan at rule upper lower)) where
  same_lines : own_lines p rule before after (uses_of upper) (uses_of lower) ≡ lines_alone p plan at rule upper lower
  same_lines = λ i. own_lines p rule (before_is i) (after_is i) (uses_of upper) (uses_of lower)

  pub judged_legal : AllPass (own_lines p rule before after (uses_of upper) (uses_of lower)) → IsLegalFor p plan at rule upper lower
  judged_legal h = all-IsLegalFor p plan at rule upper lower found shared (subst AllPass same_lines h)

  pub judged_refused : (why : NotLegal) → FirstFails (own_lines p rule before after (uses_of upper) (uses_of lower)) why → IsRefusal p plan at rule why
  judged_refused why h = own-IsRefusal p plan at rule upper lower why found shared (subst (λ (l : List Line). FirstFails l why) same_lines h)
