-- How a plan is stored in the logic: as the list of its nodes.
use Rattle.std.specs.Prelude.{◌≡◌, ◌≤◌, ◌+◌, ◌==◌, ℕ, true, false, List, [], ◌∷◌, ◌++◌, refl}
use Rattle.std.specs.Coded.{Coded, code_by, coded_list}
use Rattle.std.proofs.Common.{ap, ◌∙◌, append_assoc, append-nil, arith}
use Rattle.std.proofs.lemmas.Bool.Decides.{nat_tests}
use Rattle.plan_trees.specs.declared.preorders.Node.{Node}
use Rattle.plan_trees.specs.contracts.preorders.Node.{the_row as node_row}
use Rattle.plan_trees.specs.Plans.{PlanTree, leaf, over, both}
use Rattle.plan_trees.specs.Preorders.{count_of, preorder_of, joined, trees_of, tree_of}

pub some_node : (t : PlanTree) → 1 ≤ count_of t
some_node (leaf n) = omega arith
some_node (over n t) = omega arith
some_node (both n t u) = omega arith

joined_leaf : (n : ℕ) (rest : List PlanTree) → joined (record { at = n; count = 1 }) rest ≡ leaf n ∷ rest
joined_leaf n [] = refl
joined_leaf n (t ∷ rest) = refl

joined_over : (n : ℕ) (t : PlanTree) (rest : List PlanTree) → joined (record { at = n; count = 1 + count_of t }) (t ∷ rest) ≡ over n t ∷ rest
joined_over n t rest =
    let some = some_node t in
    let not_alone : (1 + count_of t == 1) ≡ false = grind (arith, nat_tests) in
    let same : (1 + count_of t == 1 + count_of t) ≡ true = grind (arith, nat_tests) in
    simp (not_alone, same)

joined_both : (n : ℕ) (t u : PlanTree) (rest : List PlanTree) → joined (record { at = n; count = 1 + (count_of t + count_of u) }) (t ∷ u ∷ rest) ≡ both n t u ∷ rest
joined_both n t u rest =
    let some = some_node t in
    let more = some_node u in
    let not_alone : (1 + (count_of t + count_of u) == 1) ≡ false = grind (arith, nat_tests) in
    let not_over : (1 + (count_of t + count_of u) == 1 + count_of t) ≡ false = grind (arith, nat_tests) in
    simp (not_alone, not_over)

trees_of-preorder_of : (t : PlanTree) (xs : List Node) → trees_of (preorder_of t ++ xs) ≡ t ∷ trees_of xs
trees_of-preorder_of (leaf n) xs = joined_leaf n (trees_of xs)
trees_of-preorder_of (over n t) xs =
    ap (joined (record { at = n; count = 1 + count_of t })) (trees_of-preorder_of t xs) ∙ joined_over n t (trees_of xs)
trees_of-preorder_of (both n t u) xs =
    let whole = append_assoc (preorder_of t) (preorder_of u) xs in
    let left = trees_of-preorder_of t (preorder_of u ++ xs) in
    let right = trees_of-preorder_of u xs in
    let inputs : trees_of ((preorder_of t ++ preorder_of u) ++ xs) ≡ t ∷ u ∷ trees_of xs = ap trees_of whole ∙ left ∙ ap (λ (rest : List PlanTree). t ∷ rest) right in
    ap (joined (record { at = n; count = 1 + (count_of t + count_of u) })) inputs ∙ joined_both n t u (trees_of xs)

-- the nodes of a tree represent it
pub tree_of-preorder_of : (t : PlanTree) → tree_of (preorder_of t) ≡ t
tree_of-preorder_of t =
    let e : trees_of (preorder_of t ++ []) ≡ t ∷ [] = trees_of-preorder_of t [] in
    let f : trees_of (preorder_of t) ≡ t ∷ [] = simp append-nil at e in
    simp f

abbrev pub coded_plan : Coded PlanTree
coded_plan = code_by (List Node) (coded_list node_row.coded) preorder_of tree_of tree_of-preorder_of
