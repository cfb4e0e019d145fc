use Rattle.std.proofs.Common.{◌↔◌, ◌≤◌, IsTrue, false, true≢false, List, ℕ, sym, subst, ◌∙◌}
use Rattle.std.proofs.lemmas.Bool.{both_ways}
use Rattle.pact_record.specs.FieldSets.{has_field}
use Rattle.tac_syntax.specs.declared.declarations.OpKind.TheVariants.{Map, Reduce}
use Rattle.plan_trees.proofs.RootParts.{is_over}
use Rattle.reorder_pair.specs.Unique.{AreAmong, AreNoneOf}
use Rattle.reorder_group.proofs.OneUniqueness.{told_by_tree}
use Rattle.reorder_group.proofs.unique_trees.+tree_is_unique_by.Goals as goal

pub returns-in_ok-found-in-Reduce-clause-unique : goal.returns-in_ok-found-in-Reduce-clause-unique
returns-in_ok-found-in-Reduce-clause-unique t c =
    let a = c.args in
    let s = c.in_ok-found-in-Reduce.found in
    let over_one = is_over a.tree.now c.in-OverOne.input c.in-OverOne.at (sym c.in-OverOne.is ∙ c.parts.ensures.parts) in
    told_by_tree a.program.now a.keys.now a.tree.now c.in-OverOne.at c.in-OverOne.input s Reduce over_one (sym c.kind_of.ensures ∙ c.in-Reduce.is) c.in_ok-found-in-Reduce.ensures.found
    (IsTrue c.groups_once.result)
    (subst (λ (own : List ℕ). IsTrue c.groups_once.result ↔ ((s.hi ≤ 1) × AreAmong own a.keys.now × AreNoneOf own (has_field s.sets.writes))) c.left_keys_of.ensures c.groups_once.ensures)

pub returns-else-keeps_keys-clause-unique : goal.returns-else-keeps_keys-clause-unique
returns-else-keeps_keys-clause-unique t c =
    let a = c.args in
    let over_one = is_over a.tree.now c.in-OverOne.input c.in-OverOne.at (sym c.in-OverOne.is ∙ c.parts.ensures.parts) in
    told_by_tree a.program.now a.keys.now a.tree.now c.in-OverOne.at c.in-OverOne.input c.in_ok-found-in-Map.found Map over_one (sym c.kind_of.ensures ∙ c.in-Map.is) c.in_ok-found-in-Map.ensures.found
    (IsTrue false) ((λ is. absurd (true≢false (sym is))), (λ g. absurd (both_ways c.keeps_keys.result c.if-keeps_keys.false (c.keeps_keys.ensures.1 (g.0, g.1)))))
