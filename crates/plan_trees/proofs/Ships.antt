-- Ships by the number of the node that an edge leaves.
use Rattle.std.proofs.Common.{◌≡◌, ◌≢◌, ◌<◌, ◌==◌, inl, inr, ℕ, zero, suc, true, false, List, [], ◌∷◌, length, get_or, replicate, refl, ap, sym, subst, arith}
use Rattle.std.specs.Prelude.{Some}
use Rattle.std.specs.List.{AllByRecursion}
use Rattle.std.proofs.lemmas.Bool.Decides.{nat_tests}
use Rattle.std.proofs.lemmas.List.{get_or_default, get_or-set_same}
use Rattle.plan_trees.specs.declared.physicals.Ship.{Ship}
use Rattle.plan_trees.specs.declared.physicals.Ship.TheVariants.{Forward}
use Rattle.plan_trees.specs.Plans.{PlanTree, node_limit, nodes, root_of, has, IsPlan}
use Rattle.plan_trees.specs.Physicals.{PhysicalData, has_edge, ship_at, with_ship, IsPhysical}
use Rattle.plan_trees.proofs.DifferentNumbers.{IsIn}
use Rattle.plan_trees.proofs.NodesOfTrees.{nodes-has}

each_in : (P : ℕ → Type 0) (m : ℕ) (ns : List ℕ) → AllByRecursion P ns → IsIn m ns → P m
each_in P m [] h i = absurd i
each_in P m (n ∷ ns) h (inl e) = subst P (sym e) h.0
each_in P m (n ∷ ns) h (inr later) = each_in P m ns h.1 later

-- a node's number is below the limit
pub below_limit : (at : ℕ) (t : PlanTree) → IsPlan t → has at t ≡ true → at < node_limit
below_limit at t h there = each_in (λ n. n < node_limit) at (nodes t) h.below (nodes-has at t there)

pub is_edge : (at : ℕ) (t : PlanTree) → has at t ≡ true → at ≢ root_of t → has_edge at t ≡ true
is_edge at t there other =
    let test : (at == root_of t) ≡ false = grind (arith, nat_tests) in
    simp (there, test)

pub ship_on_edge : (p : PhysicalData) (at : ℕ) (other : Ship) → IsPhysical p → has at p.tree ≡ true → at ≢ root_of p.tree
    → Some (get_or p.ships at other) ≡ ship_at p at
ship_on_edge p at other h there edge =
    let test = is_edge at p.tree there edge in
    let below : at < length p.ships = let b = below_limit at p.tree h.plan there in omega (arith, h.long) in
    rw test (ap (λ (ship : Ship). Some ship) (get_or_default p.ships at other Forward below))

pub get_or_blank : {X : Type 0} (n at : ℕ) (x : X) → get_or (replicate n x) at x ≡ x
get_or_blank zero at x = refl
get_or_blank (suc n) zero x = refl
get_or_blank (suc n) (suc at) x = get_or_blank n at x

pub ship_set : (p : PhysicalData) (at : ℕ) (ship : Ship) → IsPhysical p → has at p.tree ≡ true → at ≢ root_of p.tree → ship_at (with_ship p at ship) at ≡ Some ship
ship_set p at ship h there edge =
    let test = is_edge at p.tree there edge in
    let below : at < length p.ships = let b = below_limit at p.tree h.plan there in omega (arith, h.long) in
    rw test (ap (λ (s : Ship). Some s) (get_or-set_same p.ships at ship Forward below))
