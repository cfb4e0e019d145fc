use Rattle.std.proofs.Common.{sym, subst, ◌∙◌}
use Rattle.std.proofs.lemmas.Bool.{both_ways}
use Rattle.plan_trees.specs.Plans.{subtree_of}
use Rattle.reorder_pair.specs.Unique.{IsUniqueTree}
use Rattle.reorder_group.proofs.OneUniqueness.{absent-not_unique}
use Rattle.reorder_group.proofs.UniqueTrees.{unique-AllowsEachOnce}
use Rattle.reorder_group.proofs.unique_trees.unique.Goals as goal

pub returns-then-has-clause-once : goal.returns-then-has-clause-once
returns-then-has-clause-once c u =
    let a = c.args in
    unique-AllowsEachOnce a.program.now c.fields-fields.ensures.keeps a.keys.now (subtree_of a.at a.plan.now) (subst (IsUniqueTree a.program.now a.keys.now) c.subtree.ensures (c.tree_is_unique.ensures.0 u))

pub returns-else-has-clause-unique : goal.returns-else-has-clause-unique
returns-else-has-clause-unique c =
    let a = c.args in
    ((λ is. absurd (both_ways c.has.result c.if-has.false is)), (λ u. absurd (absent-not_unique a.program.now a.plan.now a.at a.keys.now (sym c.has.ensures ∙ c.if-has.false) u)))
