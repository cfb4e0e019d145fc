-- A physical plan remains one with a further number on an edge.
use Rattle.std.proofs.Common.{◌≡◌, ◌≢◌, ◌<◌, ◌==◌, not, ℕ, Bool, true, false, inl, inr, List, [], ◌∷◌, length, get_or, set, refl, sym, ap, subst, ◌∙◌, arith}
use Rattle.std.specs.List.{AllByRecursion}
use Rattle.std.proofs.lemmas.Bool.{cases_Bool, eqb-true, eqb-false, false_from_ne_true, both_ways, and_parts}
use Rattle.std.proofs.lemmas.List.{get_or_default, get_or-set_same, get_or-set_other, length-set}
use Rattle.plan_trees.specs.Distinct.{IsAbsent}
use Rattle.plan_trees.specs.Inserted.{inserted, inserted_above}
use Rattle.plan_trees.specs.declared.physicals.Ship.{Ship}
use Rattle.plan_trees.specs.declared.physicals.Ship.TheVariants.{Forward}
use Rattle.plan_trees.specs.Physicals.{PhysicalData, IsPhysical, has_edge}
use Rattle.plan_trees.specs.Plans.{PlanTree, over, has, nodes, node_limit, replaced, root_of, subtree_of, IsPlan}
use Rattle.plan_trees.proofs.DifferentNumbers.{IsIn, IsAbsent-not, IsAbsent-left, IsAbsent-right}
use Rattle.plan_trees.proofs.InsertedPlaces.{has-inserted, replaced-inserted, root-inserted}
use Rattle.plan_trees.proofs.InPlace.{GoesDown, down}
use Rattle.plan_trees.proofs.InsertedTrees.{in_inserted, different_inserted, has_new}
use Rattle.plan_trees.proofs.NodesOfTrees.{has-nodes, root-nodes}
use Rattle.plan_trees.proofs.Ships.{below_limit, is_edge}

each_of : (P : ℕ → Type 0) (ns : List ℕ) → ((m : ℕ) → IsIn m ns → P m) → AllByRecursion P ns
each_of P [] h = tt
each_of P (n ∷ ns) h = (h n (inl refl), each_of P ns (λ m i. h m (inr i)))

-- the tree is a plan
pub inserted-plan : (below new : ℕ) (t : PlanTree) → IsPlan t → new < node_limit → IsAbsent new (nodes t) → IsPlan (inserted below new t)
inserted-plan below new t h lt absent = record {
  below = each_of (λ m. m < node_limit) (nodes (inserted below new t)) (λ m i. elim (in_inserted below new m t i) as (λ _. m < node_limit) [
    | inl k ↦ below_limit m t h (has-nodes m t k)
    | inr k ↦ subst (λ (j : ℕ). j < node_limit) (sym k.0) lt
  ]);
  different = different_inserted below new t h.different (IsAbsent-not new (nodes t) absent);
}

edge_parts : (at : ℕ) (t : PlanTree) → has_edge at t ≡ true → (has at t ≡ true) × (at ≢ root_of t)
edge_parts at t h =
    let p = and_parts (has at t) (not (at == root_of t)) h in
    (p.0, λ e. no (at == root_of t) p.1 (subst (λ (k : ℕ). (at == k) ≡ true) e (is at)))
  where
    is : (k : ℕ) → (k == k) ≡ true
    is k = grind arith

    no : (b : Bool) → not b ≡ true → b ≡ true → ⊥
    no true e f = cc
    no false e f = cc

module _ (below new : ℕ) (q : PhysicalData) (h : IsPhysical q) (there : has below q.tree ≡ true) (edge : below ≢ root_of q.tree) (lt : new < node_limit) (absent : IsAbsent new (nodes q.tree)) where
  abbrev T : PlanTree
  T = inserted below new q.tree

  root_same : root_of T ≡ root_of q.tree
  root_same = root-inserted below new q.tree (λ e. edge (sym e))

  abbrev moved : List Ship
  moved = set q.ships new (get_or q.ships below Forward)

  below_in : below < length moved
  below_in = let b = below_limit below q.tree h.plan there in omega (arith, b, h.long, length-set q.ships new (get_or q.ships below Forward))

  new_edge : has_edge new T ≡ true
  new_edge = is_edge new T (has_new below new q.tree there) (λ e. IsAbsent-not new (nodes q.tree) absent (subst (λ (k : ℕ). IsIn k (nodes q.tree)) (sym (e ∙ root_same)) (root-nodes q.tree)))

  old_edge : (at : ℕ) → has_edge at q.tree ≡ true → has_edge at T ≡ true
  old_edge at e = let p = edge_parts at q.tree e in is_edge at T (has-inserted at below new q.tree p.0) (λ r. p.1 (r ∙ root_same))

  rest : (at : ℕ) → has_edge at T ≡ false → get_or (set moved below Forward) at Forward ≡ Forward
  rest at none = elim (cases_Bool (at == below)) as (λ _. get_or (set moved below Forward) at Forward ≡ Forward) [
    | inl e ↦ subst (λ (k : ℕ). get_or (set moved below Forward) k Forward ≡ Forward) (sym (eqb-true at below e)) (get_or-set_same moved below Forward Forward below_in)
    | inr e ↦
        get_or-set_other moved below at Forward Forward (eqb-false at below e) ∙
        get_or-set_other q.ships new at (get_or q.ships below Forward) Forward (λ s. both_ways (has_edge at T) none (subst (λ (k : ℕ). has_edge k T ≡ true) (sym s) new_edge)) ∙
        h.rest at (false_from_ne_true (has_edge at q.tree) (λ o. both_ways (has_edge at T) none (old_edge at o)))
  ]

  pub inserted_physical : IsPhysical (inserted_above below new q)
  inserted_physical = record {
    plan = inserted-plan below new q.tree h.plan lt absent;
    some_worker = h.some_worker;
    few_workers = h.few_workers;
    long = length-set moved below Forward ∙ length-set q.ships new (get_or q.ships below Forward) ∙ h.long;
    rest = rest;
  }

-- ---- as the call makes it

-- what must hold before a number is inserted into a physical plan that is taken apart
pub record IsToTake (below new : ℕ) (q : PhysicalData) : Type 0 where
  pub physical : IsPhysical q
  pub there : has below q.tree ≡ true
  pub edge : below ≢ root_of q.tree
  pub lt : new < node_limit
  pub absent : IsAbsent new (nodes q.tree)

pub is_to_take : (below new : ℕ) (q now : PhysicalData) → q ≡ now → IsPhysical q → has below now.tree ≡ true → below ≢ root_of now.tree → new < node_limit → IsAbsent new (nodes now.tree) → IsToTake below new q
is_to_take below new q now e physical there edge lt absent = record {
  physical = physical;
  there = subst (λ (d : PhysicalData). has below d.tree ≡ true) (sym e) there;
  edge = subst (λ (d : PhysicalData). below ≢ root_of d.tree) (sym e) edge;
  lt = lt;
  absent = subst (λ (d : PhysicalData). IsAbsent new (nodes d.tree)) (sym e) absent;
}

absent_down : (new : ℕ) → GoesDown (λ t. IsAbsent new (nodes t))
absent_down new = record {
  of_one = λ n t h. h.1;
  of_left = λ n t u h. IsAbsent-left new (nodes t) (nodes u) h.1;
  of_right = λ n t u h. IsAbsent-right new (nodes t) (nodes u) h.1;
}

module _ (below new : ℕ) (q : PhysicalData) (k : IsToTake below new q) where
  pub below_node : below < node_limit
  below_node = below_limit below q.tree k.physical.plan k.there

  pub below_ship : below < length q.ships
  below_ship = omega (arith, below_node, k.physical.long)

  pub below_moved : (ship : Ship) → below < length (set q.ships new ship)
  below_moved ship = omega (arith, below_ship, length-set q.ships new ship)

  pub absent_under : (s : PlanTree) → s ≡ subtree_of below q.tree → IsAbsent new (nodes s)
  absent_under s e = subst (λ (t : PlanTree). IsAbsent new (nodes t)) (sym e) (down (λ t. IsAbsent new (nodes t)) (absent_down new) below q.tree k.absent)

  pub put_in : (s above : PlanTree) → s ≡ subtree_of below q.tree → above ≡ over new s → replaced below above q.tree ≡ inserted below new q.tree
  put_in s above e f = ap (λ (x : PlanTree). replaced below x q.tree) (f ∙ ap (λ (x : PlanTree). over new x) e) ∙ replaced-inserted below new q.tree k.physical.plan.different k.there

  pub plan_put_in : (s above : PlanTree) → s ≡ subtree_of below q.tree → above ≡ over new s → IsPlan (replaced below above q.tree)
  plan_put_in s above e f = subst IsPlan (sym (put_in s above e f)) (inserted-plan below new q.tree k.physical.plan k.lt k.absent)

  abbrev made : PlanTree → Ship → PhysicalData
  made r d = record { tree = r; workers = q.workers; ships = set (set q.ships new (get_or q.ships below d)) below Forward }

  pub made_is : (r : PlanTree) (d : Ship) → r ≡ inserted below new q.tree → made r d ≡ inserted_above below new q
  made_is r d e =
      let same : get_or q.ships below d ≡ get_or q.ships below Forward = get_or_default q.ships below d Forward below_ship in
      λ i. record { tree = e i; workers = q.workers; ships = set (set q.ships new (same i)) below Forward }

  pub made_physical : (r : PlanTree) (d : Ship) → r ≡ inserted below new q.tree → IsPhysical (made r d)
  made_physical r d e = subst IsPhysical (sym (made_is r d e)) (inserted_physical below new q k.physical k.there k.edge k.lt k.absent)
