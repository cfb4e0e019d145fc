use Rattle.std.proofs.Common.{ℕ, List, subst}
use Rattle.std.proofs.lemmas.Result.{IfOk-weaker}
use Rattle.plan_trees.specs.Plans.{PlanTree, subtree_of}
use Rattle.reorder_pair.specs.Rules.{exchanged_by}
use Rattle.reorder_pair.specs.Unique.{IsUniqueTree}
use Rattle.reorder_group.specs.OtherSides.{other_input, other_keys}
use Rattle.reorder_group.proofs.UniqueTrees.{unique-AllowsEachOnce}
use Rattle.reorder_group.proofs.exchanges.other_is_unique.Goals as goal

pub returns-clause-once : goal.returns-clause-once
returns-clause-once c =
    let a = c.args in
    let p = a.program.now in
    let before = subtree_of a.at a.plan.now in
    let after = exchanged_by a.rule before in
    IfOk-weaker c.tree_is_unique_by.result _ _
    (λ told h of_four is.
    let u = h.0 is in
    let of_side = subst (λ (t : PlanTree). IsUniqueTree p (other_keys p a.rule c.subtree-before.result c.exchanged_tree-after.result) t) c.other_side-other.ensures.tree (subst (λ (keys : List ℕ). IsUniqueTree p keys c.other_side-other.result.tree) c.other_side-other.ensures.keys u) in
    let of_before = subst (λ (t : PlanTree). IsUniqueTree p (other_keys p a.rule t c.exchanged_tree-after.result) (other_input a.rule t c.exchanged_tree-after.result)) c.subtree-before.ensures of_side in
    unique-AllowsEachOnce p c.fields-fields.ensures.keeps (other_keys p a.rule before after) (other_input a.rule before after) (subst (λ (t : PlanTree). IsUniqueTree p (other_keys p a.rule before t) (other_input a.rule before t)) c.exchanged_tree-after.ensures of_before))
    c.tree_is_unique_by.ensures.unique
