-- The contexts of neighbours, over the trees before an exchange and after it.
use Rattle.std.proofs.Common.{◌≡◌, ℕ, subst}
use Rattle.tac_syntax.specs.declared.contexts.Context.{Context}
use Rattle.plan_trees.specs.Plans.{PlanTree, subtree_of}
use Rattle.pact_operators.specs.Programs.{ProgramData}
use Rattle.reorder_pair.specs.declared.rules.Rule.{Rule}
use Rattle.reorder_pair.specs.Places.{IsUnionOf}
use Rattle.reorder_pair.specs.Rules.{exchanged_by}

-- a union over two trees, if they are those before an exchange and after it
pub at_trees : (p : ProgramData) (plan : PlanTree) (rule : Rule) (at n : ℕ) (before after : PlanTree) (c : Context) → before ≡ subtree_of at plan → after ≡ exchanged_by rule (subtree_of at plan)
    → IsUnionOf p n before after c → IsUnionOf p n (subtree_of at plan) (exchanged_by rule (subtree_of at plan)) c
at_trees p plan rule at n before after c before_is after_is h =
    subst (λ (t : PlanTree). IsUnionOf p n (subtree_of at plan) t c) after_is (subst (λ (t : PlanTree). IsUnionOf p n t after c) before_is h)
