-- An inserted operator's edge is a Partition, and stays one when later Reduces are combined.
use Rattle.std.proofs.Common.{◌≡◌, ◌≢◌, ◌<◌, ◌+◌, ℕ, zero, suc, true, inl, inr, List, [], ◌∷◌, Some, length, get_or, refl, sym, ap, subst, ◌∙◌, arith}
use Rattle.std.specs.List.{AllByRecursion}
use Rattle.std.proofs.lemmas.Bool.{both_ways}
use Rattle.plan_trees.specs.declared.physicals.Ship.TheVariants.{Forward, Partition}
use Rattle.plan_trees.specs.Distinct.{AreDifferent}
use Rattle.plan_trees.specs.Inserted.{inserted}
use Rattle.plan_trees.specs.Physicals.{IsPhysical, has_edge, ship_at}
use Rattle.plan_trees.specs.Plans.{PlanTree, has, nodes, over, root_of, subtree_of}
use Rattle.plan_trees.proofs.DifferentNumbers.{IsIn}
use Rattle.plan_trees.proofs.InPlace.{GoesDown, down}
use Rattle.plan_trees.proofs.InsertedPlaces.{core, has-inserted, inserted-core, root-inserted, subtree-inserted, wrapped-so}
use Rattle.plan_trees.proofs.InsertedTrees.{has_new}
use Rattle.plan_trees.proofs.NodesOfTrees.{has-nodes, nodes-has}
use Rattle.plan_trees.proofs.Ships.{below_limit, is_edge}
use Rattle.pact_operators.specs.Allowed.{Bag}
use Rattle.pact_operators.specs.Programs.{IsPlanOf, IsProgram}
use Rattle.combine_rule.specs.Combined.{IsReadBy}
use Rattle.combine_rule.specs.CombinedPrograms.{CanCombine, IsCombinedFrom, Planned, combined_at}
use Rattle.combine_rule.proofs.CombinedPhysicals.{all_physical}
use Rattle.combine_rule.proofs.CombinedPrograms.{other_ships, ship_kept}
use Rattle.combine_rule.proofs.CombinedTheorem.{below_there, combined_plan, combined_program, no_new}
use Rattle.combine_rule.proofs.ReadOnce.{inside, not_root, read_by}

-- The operator with the number is the input of the Reduce, and the edge between them is a Partition by the fields.
pub record IsPartitionedTo (s : Planned) (number reduce : ℕ) (fields : List ℕ) : Type 0 where
  pub input : PlanTree
  pub there : has reduce s.physical.tree ≡ true
  pub reads : subtree_of reduce s.physical.tree ≡ over reduce input
  pub root : root_of input ≡ number
  pub ship : get_or s.physical.ships number Forward ≡ Partition fields

pub is_there : (s : Planned) (number reduce : ℕ) (fields : List ℕ) → IsPartitionedTo s number reduce fields → has number s.physical.tree ≡ true
is_there s number reduce fields h = has-nodes number s.physical.tree (inside number reduce h.input h.root s.physical.tree h.there h.reads)

pub partition_at : (s : Planned) (number reduce : ℕ) (fields : List ℕ) → AreDifferent (nodes s.physical.tree) → IsPartitionedTo s number reduce fields → ship_at s.physical number ≡ Some (Partition fields)
partition_at s number reduce fields different h =
    let tree = s.physical.tree in
    let edge : has_edge number tree ≡ true = is_edge number tree (is_there s number reduce fields h) (λ e. not_root number reduce h.input h.root tree different h.there h.reads (sym e)) in
    rw edge (ap Some h.ship)

-- only one Reduce reads a number
one_reader : (number reduce other : ℕ) (tree input : PlanTree) → IsReadBy number other tree → subtree_of reduce tree ≡ over reduce input → root_of input ≡ number → reduce ≡ other
one_reader number reduce other tree input read reads root = here.0 root where
  read_down : GoesDown (IsReadBy number other)
  read_down = record { of_one = λ m t h. h.2; of_left = λ m t u h. h.3; of_right = λ m t u h. h.4 }

  here : IsReadBy number other (over reduce input)
  here = subst (IsReadBy number other) reads (down (IsReadBy number other) read_down reduce tree read)

-- ---- one more combined Reduce

module _ (inputs : List Bag) (s : Planned) (at : ℕ) (c : CanCombine s at) (program : IsProgram s.program) (plan : IsPlanOf s.program.functions s.program.ops s.physical.tree) (physical : IsPhysical s.physical) where
  abbrev tree : PlanTree
  tree = s.physical.tree

  abbrev new : ℕ
  new = length s.program.ops

  abbrev below : ℕ
  below = root_of c.input

  abbrev next : Planned
  next = combined_at s at c

  pub next_physical : IsPhysical next.physical
  next_physical = all_physical inputs next 1 at s ((new, at) ∷ []) (inl (c, [], refl, (refl, refl))) program plan physical

  below_in_tree : has below tree ≡ true
  below_in_tree = below_there s at c program inputs plan

  new_in : new < length s.physical.ships
  new_in = let less = below_limit new next.physical.tree next_physical.plan (has_new below new tree below_in_tree) in omega (arith, less, physical.long)

  below_in : below < length s.physical.ships
  below_in = let less = below_limit below tree physical.plan below_in_tree in omega (arith, less, physical.long)

  not_in : IsIn new (nodes tree) → ⊥
  not_in i = both_ways (has new tree) (no_new s at c program inputs plan) (has-nodes new tree i)

  apart : new ≢ below
  apart e = not_in (subst (λ (k : ℕ). IsIn k (nodes tree)) (sym e) (nodes-has below tree below_in_tree))

  -- the inserted operator is partitioned to the Reduce
  pub partitioned : IsPartitionedTo next new at c.fields
  partitioned = record {
    input = inserted below new c.input;
    there = has-inserted at below new tree c.there;
    reads = subtree-inserted below new at tree plan.different not_in c.there ∙ ap (core below new) c.reads;
    root = ap root_of (inserted-core below new c.input ∙ wrapped-so below new below (core below new c.input) refl);
    ship = ship_kept s.physical below new apart below_in new_in ∙ c.ship;
  }

  -- an operator that was partitioned to another Reduce still is
  pub still_partitioned : (number reduce : ℕ) (fields : List ℕ) → reduce ≢ at → IsPartitionedTo s number reduce fields → IsPartitionedTo next number reduce fields
  still_partitioned number reduce fields other h =
      let read = read_by below at c.input refl tree plan.different c.there c.reads in
      let not_below : number ≢ below = λ e. other (one_reader below reduce at tree h.input read h.reads (h.root ∙ e)) in
      let not_new : number ≢ new = λ e. not_in (subst (λ (k : ℕ). IsIn k (nodes tree)) e (nodes-has number tree (is_there s number reduce fields h))) in
      record {
        input = inserted below new h.input;
        there = has-inserted reduce below new tree h.there;
        reads = subtree-inserted below new reduce tree plan.different not_in h.there ∙ ap (core below new) h.reads;
        root = root-inserted below new h.input (λ e. not_below (sym h.root ∙ e)) ∙ h.root;
        ship = other_ships s.physical below new apart below_in new_in number not_below not_new ∙ h.ship;
      }

-- ---- all Reduces

module _ (inputs : List Bag) (end : Planned) where
  to_end : (count at : ℕ) (s : Planned) (of : List (ℕ × ℕ)) (number reduce : ℕ) (fields : List ℕ) → IsCombinedFrom count at s end of → IsProgram s.program
      → IsPlanOf s.program.functions s.program.ops s.physical.tree → IsPhysical s.physical → reduce < at
      → IsPartitionedTo s number reduce fields → IsPartitionedTo end number reduce fields
  to_end zero at s of number reduce fields h program plan physical less is = subst (λ (x : Planned). IsPartitionedTo x number reduce fields) (sym h.0) is
  to_end (suc k) at s of number reduce fields (inr h) program plan physical less is = to_end k (at + 1) s of number reduce fields h.1 program plan physical (omega (arith, less)) is
  to_end (suc k) at s of number reduce fields (inl h) program plan physical less is =
      let c = h.0 in
      to_end k (at + 1) (combined_at s at c) h.1 number reduce fields h.3 (combined_program s at c program inputs plan) (combined_plan s at c program inputs plan) (next_physical inputs s at c program plan physical)
      (omega (arith, less)) (still_partitioned inputs s at c program plan physical number reduce fields (λ e. omega (arith, e, less)) is)

  -- the edge of each operator that was inserted
  pub all_partitioned : (count at : ℕ) (s : Planned) (of : List (ℕ × ℕ)) → IsCombinedFrom count at s end of → IsProgram s.program
      → IsPlanOf s.program.functions s.program.ops s.physical.tree → IsPhysical s.physical
      → AllByRecursion (λ pair. (fields : List ℕ) × IsPartitionedTo end pair.0 pair.1 fields) of
  all_partitioned zero at s of h program plan physical = subst (AllByRecursion (λ pair. (fields : List ℕ) × IsPartitionedTo end pair.0 pair.1 fields)) (sym h.1) tt
  all_partitioned (suc k) at s of (inr h) program plan physical = all_partitioned k (at + 1) s of h.1 program plan physical
  all_partitioned (suc k) at s of (inl h) program plan physical =
      let c = h.0 in
      let next = combined_at s at c in
      let next_program = combined_program s at c program inputs plan in
      let next_plan = combined_plan s at c program inputs plan in
      let next_is = next_physical inputs s at c program plan physical in
      let new = length s.program.ops in
      subst (AllByRecursion (λ pair. (fields : List ℕ) × IsPartitionedTo end pair.0 pair.1 fields)) (sym h.2) (
        (c.fields, to_end k (at + 1) next h.1 new at c.fields h.3 next_program next_plan next_is (omega arith) (partitioned inputs s at c program plan physical)),
        all_partitioned k (at + 1) next h.1 h.3 next_program next_plan next_is,
      )
