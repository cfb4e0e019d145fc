-- Plans are `==` exactly if they are the same tree.
use Rattle.std.proofs.Common.{◌≡◌, ◌==◌, ◌&&◌, Bool, List, length, take, ap, sym, ◌∙◌}
use Rattle.std.specs.Bool.{Decides}
use Rattle.std.specs.Cmp.Lexicographic.{pointwise}
use Rattle.std.proofs.lemmas.Bool.Decides.{Decides-eqb, Decides-and, Decides-like, Decides-at}
use Rattle.std.proofs.lemmas.List.{take_at}
use Rattle.std.proofs.lemmas.Slice.Eq.{slice_eq-Decides}
use Rattle.plan_trees.specs.declared.preorders.Node.{Node}
use Rattle.plan_trees.specs.NodeRows.{padded}
use Rattle.plan_trees.specs.Plans.{PlanTree}
use Rattle.plan_trees.specs.PlanCode.{tree_of-preorder_of}
use Rattle.plan_trees.specs.PlanEquality.{same_node, same_plan}
use Rattle.plan_trees.specs.Preorders.{preorder_of, tree_of}
use Rattle.plan_trees.proofs.ShownPlans.{Shows}

node_decides : (x y : Node) → Decides (same_node x y) (x ≡ y)
node_decides x y =
    Decides-like (same_node x y) (λ e. λ i. record { at = e.0 i; count = e.1 i }) (λ e. (ap (λ (n : Node). n.at) e, ap (λ (n : Node). n.count) e))
    (Decides-and (x.at == y.at) (x.count == y.count) (Decides-eqb x.at y.at) (Decides-eqb x.count y.count))

-- the test of two arrays with their counts decides whether they hold the same nodes
rows_decide : (xs ys : List Node) (r : Bool) → r ≡ (pointwise same_node (padded xs) (padded ys) && (length xs == length ys)) → Decides r (xs ≡ ys)
rows_decide xs ys r e =
    let front : (zs : List Node) → take (length zs) (padded zs) ≡ zs = λ zs. take_at zs _ (length zs) (λ _. length zs) in
    Decides-at r _ e (Decides-like _
    (λ h. sym (front xs) ∙ (λ i. take (h.1 i) (h.0 i)) ∙ front ys) (λ h. (ap padded h, ap length h))
    (Decides-and _ _ (slice_eq-Decides node_decides (padded xs) (padded ys) _ (λ _. pointwise same_node (padded xs) (padded ys))) (Decides-eqb (length xs) (length ys))))

same_nodes : (t u : PlanTree) → preorder_of t ≡ preorder_of u → t ≡ u
same_nodes t u e = sym (tree_of-preorder_of t) ∙ ap tree_of e ∙ tree_of-preorder_of u

pub plan_decides : (t u : PlanTree) → Decides (same_plan t u) (t ≡ u)
plan_decides t u =
    Decides-like (same_plan t u) (same_nodes t u) (ap preorder_of)
    (slice_eq-Decides node_decides (preorder_of t) (preorder_of u) (same_plan t u) (λ _. same_plan t u))

pub arrays_decide : (xs ys : List Node) (t u : PlanTree) (r : Bool) → Shows xs t → Shows ys u
    → r ≡ (pointwise same_node (padded xs) (padded ys) && (length xs == length ys)) → Decides r (t ≡ u)
arrays_decide xs ys t u r h k e =
    Decides-like r (λ same. same_nodes t u (sym h.nodes ∙ same ∙ k.nodes)) (λ same. h.nodes ∙ ap preorder_of same ∙ sym k.nodes) (rows_decide xs ys r e)
