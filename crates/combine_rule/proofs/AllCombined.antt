-- All combined Reduces of a program: the theorem.
use Rattle.std.proofs.Common.{◌≡◌, ◌+◌, ℕ, zero, suc, true, inl, inr, List, [], ◌∷◌, ◌++◌, length, get_or, set, sym, subst, ◌∙◌, arith}
use Rattle.std.specs.List.{AllByRecursion}
use Rattle.std.proofs.lemmas.Bool.{both_ways}
use Rattle.std.proofs.lemmas.List.{length-set}
use Rattle.pact_record.specs.Keys.{is_listed}
use Rattle.plan_trees.specs.declared.physicals.Ship.TheVariants.{Forward}
use Rattle.plan_trees.specs.Physicals.{IsPhysical}
use Rattle.plan_trees.specs.Plans.{IsPlan, has, node_limit, root_of}
use Rattle.plan_trees.proofs.EverySubtree.{AllBelow, all_below-at}
use Rattle.plan_trees.proofs.Ships.{below_limit}
use Rattle.pact_operators.specs.Allowed.{Bag, Counted}
use Rattle.pact_operators.specs.Divided.{IsDivided}
use Rattle.pact_operators.specs.Inputs.{AreInputsOf}
use Rattle.pact_operators.specs.PlanOps.{plan_ops}
use Rattle.pact_operators.specs.Programs.{IsPlanOf, IsProgram}
use Rattle.ship_strategy.specs.PlanFacts.{facts_of}
use Rattle.ship_strategy.specs.Ships.{LegalShip}
use Rattle.ship_strategy.proofs.DividedRuns.{divided_counted}
use Rattle.flow_instance.specs.Spots.{setting}
use Rattle.flow_instance.specs.Spread.{Spread}
use Rattle.flow_instance.proofs.DividedRuns.{divided}
use Rattle.combine_rule.specs.CombinedPrograms.{Planned, combined_at, sender_for, sender_op, IsCombinedFrom, IsCombinedPlan}
use Rattle.plan_trees.proofs.InsertedPlaces.{has-inserted}
use Rattle.combine_rule.proofs.CombinedTheorem.{combined_divided, combined_plan, combined_program, below_there, no_new}
use Rattle.combine_rule.proofs.KeptInside.{HasInside, inside_kept, legal_inside}
use Rattle.ship_strategy.proofs.FactsBelow.{facts_below}
use Rattle.plan_trees.proofs.InsertedTrees.{has_new}

-- At each state on the way, if the Reduce with this number may be combined, the fields of its Partition are among its
-- keys.
abbrev pub AreInside : (count at : ℕ) → (s end : Planned) (of : List (ℕ × ℕ)) → IsCombinedFrom count at s end of → Type 0
AreInside zero at s end of h = Unit {0}
AreInside (suc n) at s end of (inl h) = AllByRecursion (λ k. is_listed h.0.op.left_keys k ≡ true) h.0.fields × AreInside n (at + 1) (combined_at s at h.0) end h.1 h.3
AreInside (suc n) at s end of (inr h) = AreInside n (at + 1) s end of h.1

pub has_kept : (m count at : ℕ) (s end : Planned) (of : List (ℕ × ℕ)) → IsCombinedFrom count at s end of → has m s.physical.tree ≡ true → has m end.physical.tree ≡ true
has_kept m zero at s end of h there = subst (λ (x : Planned). has m x.physical.tree ≡ true) (sym h.0) there
has_kept m (suc n) at s end of (inl h) there = has_kept m n (at + 1) (combined_at s at h.0) end h.1 h.3 (has-inserted m (root_of h.0.input) (length s.program.ops) s.physical.tree there)
has_kept m (suc n) at s end of (inr h) there = has_kept m n (at + 1) s end of h.1 there

module _ (inputs : List Bag) (end : Planned) where
  -- the combined program is a valid program with its plan
  pub all_program : (count at : ℕ) (s : Planned) (of : List (ℕ × ℕ)) → IsCombinedFrom count at s end of → IsProgram s.program
      → IsPlanOf s.program.functions s.program.ops s.physical.tree
      → IsProgram end.program × IsPlanOf end.program.functions end.program.ops end.physical.tree
  all_program zero at s of h program plan = subst (λ (x : Planned). IsProgram x.program × IsPlanOf x.program.functions x.program.ops x.physical.tree) (sym h.0) (program, plan)
  all_program (suc n) at s of (inr h) program plan = all_program n (at + 1) s of h.1 program plan
  all_program (suc n) at s of (inl h) program plan = all_program n (at + 1) (combined_at s at h.0) h.1 h.3 (combined_program s at h.0 program inputs plan) (combined_plan s at h.0 program inputs plan)

module _ (inputs : List Bag) (end : Planned) (end_plan : IsPlan end.physical.tree) where
  -- a run of the whole combined plan becomes a run of the plan, one Reduce at a time
  pub all_divided : (count at : ℕ) (s : Planned) (of : List (ℕ × ℕ)) (h : IsCombinedFrom count at s end of) → AreInside count at s end of h
      → IsProgram s.program → IsPlanOf s.program.functions s.program.ops s.physical.tree
      → length s.physical.ships ≡ node_limit → (rows : Bag) (counts : List ℕ) → IsDivided (plan_ops end.program inputs) end.physical rows counts → IsDivided (plan_ops s.program inputs) s.physical rows counts
  all_divided zero at s of h inside program plan long rows counts d = subst (λ (x : Planned). IsDivided (plan_ops x.program inputs) x.physical rows counts) h.0 d
  all_divided (suc n) at s of (inr h) inside program plan long rows counts d = all_divided n (at + 1) s of h.1 inside program plan long rows counts d
  all_divided (suc n) at s of (inl h) inside program plan long rows counts d =
      let c = h.0 in
      let new = length s.program.ops in
      let below = root_of c.input in
      let next = combined_at s at c in
      let there = below_there s at c program inputs plan in
      let next_plan = combined_plan s at c program inputs plan in
      let next_long = length-set (set s.physical.ships new (get_or s.physical.ships below Forward)) below Forward ∙ length-set s.physical.ships new (get_or s.physical.ships below Forward) ∙ long in
      let new_in = below_limit new end.physical.tree end_plan (has_kept new n (at + 1) next end h.1 h.3 (has_new below new s.physical.tree there)) in
      let below_in = below_limit below end.physical.tree end_plan (has_kept below n (at + 1) next end h.1 h.3 (has-inserted below below new s.physical.tree there)) in
      combined_divided s at c program inputs plan inside.0 (omega (arith, new_in, long)) (omega (arith, below_in, long)) next_plan.different rows counts
      (all_divided n (at + 1) next h.1 h.3 inside.1 (combined_program s at c program inputs plan) next_plan next_long rows counts d)

  -- The theorem, if the fields of each Partition are among the keys at each state.
  pub all_counted : (count at : ℕ) (s : Planned) (of : List (ℕ × ℕ)) (h : IsCombinedFrom count at s end of) → AreInside count at s end of h
      → IsProgram s.program → AreInputsOf s.program inputs → IsPhysical s.physical
      → IsPlanOf s.program.functions s.program.ops s.physical.tree → LegalShip (facts_of s.program s.physical.tree) s.physical → IsPhysical end.physical
      → (rows : Bag) (counts : List ℕ) → Spread (setting end.program inputs end.physical) rows counts → Counted (plan_ops s.program inputs) s.physical.tree rows counts
  all_counted count at s of h inside program of_inputs physical plan legal end_physical rows counts run =
      let e = all_program inputs end count at s of h program plan in
      divided_counted s.program program inputs of_inputs s.physical physical plan legal rows counts
      (all_divided count at s of h inside program plan physical.long rows counts (divided end.program inputs end.physical rows counts end_physical e.1 run))

  -- ---- the fields of each Partition are among the keys

  pub all_inside : (count at : ℕ) (s : Planned) (of : List (ℕ × ℕ)) (h : IsCombinedFrom count at s end of) → IsProgram s.program
      → IsPlanOf s.program.functions s.program.ops s.physical.tree → length s.physical.ships ≡ node_limit
      → AllBelow (HasInside s.program.ops s.physical.ships) s.physical.tree → AreInside count at s end of h
  all_inside zero at s of h program plan long inside = tt
  all_inside (suc n) at s of (inr h) program plan long inside = all_inside n (at + 1) s of h.1 program plan long inside
  all_inside (suc n) at s of (inl h) program plan long inside =
      let c = h.0 in
      let new = length s.program.ops in
      let below = root_of c.input in
      let next = combined_at s at c in
      let there = below_there s at c program inputs plan in
      let absent = no_new s at c program inputs plan in
      let next_long = length-set (set s.physical.ships new (get_or s.physical.ships below Forward)) below Forward ∙ length-set s.physical.ships new (get_or s.physical.ships below Forward) ∙ long in
      let new_in = below_limit new end.physical.tree end_plan (has_kept new n (at + 1) next end h.1 h.3 (has_new below new s.physical.tree there)) in
      let below_in = below_limit below end.physical.tree end_plan (has_kept below n (at + 1) next end h.1 h.3 (has-inserted below below new s.physical.tree there)) in (
        subst (HasInside s.program.ops s.physical.ships) c.reads (all_below-at (HasInside s.program.ops s.physical.ships) at s.physical.tree inside c.there) c.op c.found c.kind c.fields c.ship,
        all_inside n (at + 1) next h.1 h.3 (combined_program s at c program inputs plan) (combined_plan s at c program inputs plan) next_long
            (inside_kept s.program.ops s.physical below at (length (s.program.functions ++ sender_for s at c ∷ [])) c.op (record (sender_op new c.op) { function = length s.program.functions }) c.found
            (λ e. both_ways (has new s.physical.tree) absent (subst (λ (k : ℕ). has k s.physical.tree ≡ true) (sym e) there)) (omega (arith, below_in, long)) (omega (arith, new_in, long)) s.physical.tree absent inside),
      )

-- The theorem, for a program with its inputs, a physical plan of it with legal shipping, and their combined plan: the
-- result of a run of the combined plan is counted for the plan.
pub combined_run_counted : (s end : Planned) (of : List (ℕ × ℕ)) → IsCombinedPlan s end of → (inputs : List Bag) → IsProgram s.program
    → AreInputsOf s.program inputs → IsPhysical s.physical
    → IsPlanOf s.program.functions s.program.ops s.physical.tree → LegalShip (facts_of s.program s.physical.tree) s.physical → IsPhysical end.physical
    → (rows : Bag) (counts : List ℕ) → Spread (setting end.program inputs end.physical) rows counts → Counted (plan_ops s.program inputs) s.physical.tree rows counts
combined_run_counted s end of h inputs program of_inputs physical plan legal end_physical rows counts run =
    let f = facts_of s.program s.physical.tree in
    let inside = legal_inside s.program s.physical f s.physical.tree legal (facts_below s.program s.physical.tree plan.different) in
    all_counted inputs end end_physical.plan (length s.program.ops) 0 s of h (all_inside inputs end end_physical.plan (length s.program.ops) 0 s of h program plan physical.long inside)
    program of_inputs physical plan legal end_physical rows counts run
