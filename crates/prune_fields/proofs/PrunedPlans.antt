-- A pruned program is valid, its plan is one of its plans, and it ships legally. Both plans allow the same records, cut
-- to the sink's fields, with the same counts.
use Rattle.std.proofs.Common.{◌≡◌, ◌≢◌, ◌<◌, ◌≤◌, ◌==◌, ◌&&◌, not, ℕ, zero, suc, true, List, get_or, length, refl, sym, ap, ◌∙◌, arith}
use Rattle.std.specs.List.{AllByRecursion}
use Rattle.std.proofs.lemmas.Bool.{and_parts, eq-eqb, true≢false}
use Rattle.plan_trees.specs.declared.physicals.Ship.{Ship}
use Rattle.plan_trees.specs.declared.physicals.Ship.TheVariants.{Forward}
use Rattle.plan_trees.specs.Physicals.{IsPhysical, PhysicalData, has_edge}
use Rattle.plan_trees.specs.Plans.{IsPlan, PlanTree, has, node_limit, root_of, subtree_of}
use Rattle.plan_trees.proofs.Ships.{below_limit}
use Rattle.pact_operators.specs.Programs.{IsPlanOf, IsProgram, ProgramData}
use Rattle.pact_record.proofs.Lists.{AllByRecursion-weaker, AllByRecursion-both}
use Rattle.pact_record.specs.Keys.{is_listed}
use Rattle.tac_syntax.specs.Contexts.{FieldSet}
use Rattle.ship_strategy.specs.PlanFacts.{facts_of}
use Rattle.ship_strategy.specs.Ships.{LegalShip}
use Rattle.prune_fields.specs.Needs.{need}
use Rattle.prune_fields.specs.PrunedPlans.{cut_below, has_spare, is_cut, is_forward, pruned_physical, pruned_program}
use Rattle.prune_fields.specs.SameAnswers.{AnswersSame}
use Rattle.prune_fields.proofs.AllKeeps.{MayCut, Stands, all_put_in}
use Rattle.prune_fields.proofs.CutNumbers.{cut_different, cut_passed, cut_small, has_function_room, has_operator_room}
use Rattle.prune_fields.proofs.Cuts.{each_cut}
use Rattle.prune_fields.proofs.KeptAttributes.{attribute_has}
use Rattle.prune_fields.proofs.LegalGrown.{stays_legal}
use Rattle.prune_fields.proofs.MovedShips.{HaveRoom, are_moved}
use Rattle.prune_fields.proofs.NeedsByEdge.{AreNeeds, are_needs, needed_attribute}
use Rattle.prune_fields.proofs.OneMoreKeep.{ops_length}
use Rattle.prune_fields.proofs.SameAnswers.{gives_same_answers}

not_forward : (ship : Ship) → not (is_forward ship) ≡ true → ship ≢ Forward
not_forward ship h e = true≢false (sym h ∙ ap (λ (s : Ship). not (is_forward s)) e)

-- a program with a plan has at most `node_limit` sources and operators
ops_fit : (size : ℕ) (p : ProgramData) (t : PlanTree) → size ≡ length p.ops → IsPlanOf p.functions p.ops t → IsPlan t → size ≤ node_limit
ops_fit zero p t e h plan = omega arith
ops_fit (suc size) p t e h plan = let lt = below_limit size t plan (h.all size (omega (arith, e))) in omega (arith, lt)

module _ (p : ProgramData) (x : PhysicalData) (program : IsProgram p) (plan : IsPlanOf p.functions p.ops x.tree) where
  abbrev Needs : ℕ → FieldSet
  Needs = need p x.tree

  needs_are : AreNeeds p Needs x.tree
  needs_are = are_needs p Needs x.tree (is_listed p.sink) plan.different (λ at there. refl)

  -- an edge that is cut
  pub record IsCutEdge (n : ℕ) : Type 0 where
    pub there : has n x.tree ≡ true
    pub edge : n ≢ root_of x.tree
    pub ship : get_or x.ships n Forward ≢ Forward

  pub cut_edge : (n : ℕ) → is_cut p x n ≡ true → IsCutEdge n
  cut_edge n h =
      let a = and_parts (has_edge n x.tree) (not (is_forward (get_or x.ships n Forward)) && has_spare p x.tree n) h in
      let b = and_parts (not (is_forward (get_or x.ships n Forward))) (has_spare p x.tree n) a.1 in
      let e = and_parts (has n x.tree) (not (n == root_of x.tree)) a.0 in
      record { there = e.0; edge = other n (root_of x.tree) e.1; ship = not_forward (get_or x.ships n Forward) b.0 }
    where
      other : (n m : ℕ) → not (n == m) ≡ true → n ≢ m
      other n m h e = true≢false (sym h ∙ ap not (eq-eqb n m e))

  pub may_cut : (n : ℕ) → n < length p.ops → is_cut p x n ≡ true → MayCut p x Needs program n
  may_cut n lt h =
      let c = cut_edge n h in
      record {
        there = c.there;
        old = lt;
        edge = λ e. c.edge (sym e);
        needed = λ k is. (attribute_has p (subtree_of n x.tree) k).0 (needed_attribute p Needs n k x.tree needs_are c.there c.edge is);
      }

  all_may : (at : ℕ) → at ≤ length p.ops → AllByRecursion (MayCut p x Needs program) (cut_below p x at)
  all_may at le =
      AllByRecursion-weaker (λ n. (n < at) × (is_cut p x n ≡ true)) (MayCut p x Needs program) (cut_below p x at)
      (λ n h. may_cut n (omega (arith, h.0, le)) h.1)
      (AllByRecursion-both (λ n. n < at) (λ n. is_cut p x n ≡ true) (cut_below p x at) (cut_small p x at) (cut_passed p x at))

  module _ (physical : IsPhysical x) where
    pub cut_stands : (at : ℕ) → at ≤ length p.ops → Stands p x Needs program (cut_below p x at)
    cut_stands at le =
        all_put_in p x Needs program plan physical (cut_below p x at) (all_may at le) (cut_different p x at) (has_operator_room p x program at)
        (has_function_room p x program at)

    abbrev ns : List ℕ
    ns = cut_below p x (length p.ops)

    abbrev Q : ProgramData
    Q = pruned_program p x

    abbrev Y : PhysicalData
    Y = pruned_physical p x

    all_stand : Stands p x Needs program ns
    all_stand = cut_stands (length p.ops) (omega arith)

    pub pruned_is_program : IsProgram Q
    pruned_is_program = all_stand.grown.program

    pub pruned_plan : IsPlanOf Q.functions Q.ops Y.tree
    pruned_plan = all_stand.grown.plan

    pub pruned_is_physical : IsPhysical Y
    pruned_is_physical = all_stand.physical

    room_for : HaveRoom (length p.ops) ns x.ships
    room_for =
        let fits = ops_fit (length Q.ops) Q Y.tree refl pruned_plan pruned_is_physical.plan in
        record {
          below = cut_small p x (length p.ops);
          different = cut_different p x (length p.ops);
          room = omega (arith, fits, physical.long, ops_length p x.tree Needs ns);
        }

    -- shipping stays legal
    pub pruned_legal : LegalShip (facts_of p x.tree) x → LegalShip (facts_of Q Y.tree) Y
    pruned_legal legal =
        stays_legal p program x.tree Needs ns x Y refl refl plan needs_are pruned_plan (are_moved (length p.ops) ns x.ships room_for)
        (λ n m e. (cut_edge n (each_cut (λ k. is_cut p x k ≡ true) (length p.ops) n m ns (cut_passed p x (length p.ops)) e)).ship) legal

    -- the theorem
    pub pruned_answers : AnswersSame p x Q Y
    pruned_answers inputs of_inputs = gives_same_answers p program inputs of_inputs x.tree plan ns pruned_is_program
