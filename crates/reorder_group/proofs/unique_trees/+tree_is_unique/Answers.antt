use Rattle.std.proofs.Common.{◌↔◌, ◌≤◌, IsTrue, ℕ, List, sym, subst, ◌∙◌}
use Rattle.std.proofs.lemmas.Bool.{both_ways}
use Rattle.pact_record.specs.FieldSets.{has_field}
use Rattle.tac_syntax.specs.declared.declarations.OpKind.TheVariants.{Map, Reduce}
use Rattle.plan_trees.proofs.RootParts.{is_over}
use Rattle.reorder_pair.specs.Unique.{AreAmong, AreNoneOf}
use Rattle.reorder_group.proofs.OneUniqueness.{told_by_tree}
use Rattle.reorder_group.proofs.unique_trees.+tree_is_unique.Goals as goal

pub returns-in-Reduce : goal.returns-in-Reduce
returns-in-Reduce t c =
    let a = c.args in
    let s = c.found_in_plan-found.result in
    let over_one = is_over a.tree.now c.in-OverOne.input c.in-OverOne.at (sym c.in-OverOne.is ∙ c.parts.ensures.parts) in
    told_by_tree a.program.now a.keys.now a.tree.now c.in-OverOne.at c.in-OverOne.input s Reduce over_one (sym c.kind_of.ensures ∙ c.in-Reduce.is) c.found_in_plan-found.ensures (IsTrue c.groups_once.result)
    (subst (λ (own : List ℕ). IsTrue c.groups_once.result ↔ ((s.hi ≤ 1) × AreAmong own a.keys.now × AreNoneOf own (has_field s.sets.writes))) c.left_keys_of.ensures c.groups_once.ensures)

pub returns-else-keeps_keys : goal.returns-else-keeps_keys
returns-else-keeps_keys t c =
    let a = c.args in
    let over_one = is_over a.tree.now c.in-OverOne.input c.in-OverOne.at (sym c.in-OverOne.is ∙ c.parts.ensures.parts) in
    told_by_tree a.program.now a.keys.now a.tree.now c.in-OverOne.at c.in-OverOne.input c.found_in_plan-found-in-Map.result Map over_one (sym c.kind_of.ensures ∙ c.in-Map.is) c.found_in_plan-found-in-Map.ensures
    (IsTrue c.keeps_keys.result) ((λ is. absurd (both_ways c.keeps_keys.result c.if-keeps_keys.false is)), (λ g. c.keeps_keys.ensures.1 (g.0, g.1)))
