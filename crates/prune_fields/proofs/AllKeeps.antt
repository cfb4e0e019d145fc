-- Maps that are inserted one after another: each may be inserted, and the program with all of them is valid.
use Rattle.std.proofs.Common.{◌≡◌, ◌≢◌, ◌<◌, ◌≤◌, ◌+◌, ℕ, true, inl, List, [], ◌∷◌, ◌++◌, length, refl, sym, ap, subst, ◌∙◌, arith, length-append, append_assoc, append-nil}
use Rattle.std.specs.List.{AllByRecursion}
use Rattle.plan_trees.specs.Distinct.{IsAbsent, AreDifferent}
use Rattle.plan_trees.specs.Inserted.{inserted}
use Rattle.plan_trees.specs.Physicals.{PhysicalData, IsPhysical}
use Rattle.plan_trees.specs.Plans.{PlanTree, has, root_of, subtree_of}
use Rattle.plan_trees.proofs.DifferentNumbers.{IsAbsent-from, AreDifferent-parts}
use Rattle.plan_trees.proofs.InsertedPhysicals.{inserted_physical}
use Rattle.plan_trees.proofs.InsertedPlaces.{has-inserted}
use Rattle.tac_syntax.specs.Contexts.{FieldSet}
use Rattle.tac_syntax.specs.Valid.{WithFields, IsValid}
use Rattle.tac_syntax.proofs.FieldLimits.{wide_limit}
use Rattle.pact_operators.specs.declared.operators.Op.{Op}
use Rattle.pact_operators.specs.Programs.{ProgramData, IsProgram, IsPlanOf, HasAttribute, function_limit, is_operator_kind, operator_limit, times_of_kind}
use Rattle.pact_operators.proofs.InsertedPrograms.{absent_new, attributes_same, inserted_program, inserted_plan, one_operator}
use Rattle.pact_operators.proofs.NumbersInPlans.{next_below}
use Rattle.prune_fields.specs.Insertions.{CanKeep, cuts_from, grown, keep_op, kept_into, with_cut_edges, with_keeps}
use Rattle.prune_fields.specs.KeepFunctions.{keep_function}
use Rattle.prune_fields.proofs.KeepFunctions.{keep_names, keep_valid}
use Rattle.prune_fields.proofs.OneMoreKeep.{functions_length, none_edge, none_more, one_more, one_more_edge, one_more_tree, root-grown}

-- a program and a plan of it, and both with `count` more Maps
pub record HasGrown (p : ProgramData) (tree : PlanTree) (count : ℕ) (q : ProgramData) (now : PlanTree) : Type 0 where
  pub program : IsProgram q
  pub plan : IsPlanOf q.functions q.ops now
  pub has_old : (at : ℕ) → has at tree ≡ true → has at now ≡ true
  pub attributes : (at k : ℕ) → has at tree ≡ true → HasAttribute p.functions p.ops (subtree_of at tree) k
      → HasAttribute q.functions q.ops (subtree_of at now) k
  pub times : times_of_kind is_operator_kind q.ops ≡ times_of_kind is_operator_kind p.ops + count

module _ (p : ProgramData) (x : PhysicalData) (needs : ℕ → FieldSet) (program : IsProgram p) where
  abbrev after : List ℕ → ProgramData
  after ns = with_keeps p x.tree needs ns

  abbrev tree_after : List ℕ → PlanTree
  tree_after ns = grown (cuts_from (length p.ops) ns) x.tree

  -- what holds after some Maps are inserted
  pub record Stands (ns : List ℕ) : Type 0 where
    pub grown : HasGrown p x.tree (length ns) (after ns) (tree_after ns)
    pub physical : IsPhysical (with_cut_edges p x ns)

  -- a number on whose edge a Map may be inserted
  pub record MayCut (n : ℕ) : Type 0 where
    pub there : has n x.tree ≡ true
    pub old : n < length p.ops
    pub edge : root_of x.tree ≢ n
    pub needed : (k : ℕ) → needs n k ≡ true → HasAttribute p.functions p.ops (subtree_of n x.tree) k

  module _ (ns : List ℕ) (s : Stands ns) (n : ℕ) (may : MayCut n) (room : times_of_kind is_operator_kind p.ops + length ns < operator_limit)
      (function_room : length p.functions + length ns < function_limit) where
    abbrev new : ℕ
    new = length (after ns).ops

    abbrev op_for : Op
    op_for = keep_op new 0

    abbrev function_for : WithFields
    function_for = keep_function new p.fields (needs n)

    root_same : root_of (tree_after ns) ≡ root_of x.tree
    root_same = root-grown (cuts_from (length p.ops) ns) x.tree

    -- the precondition of `insert`
    pub can_insert : CanKeep (after ns) (tree_after ns) n (needs n)
    can_insert = record {
      plan = s.grown.plan;
      there = s.grown.has_old n may.there;
      not_root = λ e. may.edge (sym root_same ∙ e);
      kind = inl refl;
      called = refl;
      keys = (refl, refl);
      no_columns = refl;
      fields = refl;
      keys_inside = tt;
      named_inside = λ k h. s.grown.attributes n k may.there (may.needed k (keep_names p.fields (needs n) k h));
      room = let t = s.grown.times in omega (arith, t, room);
      function_room = omega (arith, functions_length p x.tree needs ns, function_room);
    }

    valid : IsValid function_for.function function_for.fields
    valid =
        keep_valid new p.fields (needs n) program.some_field
        (let few = program.few_fields in let limit = wide_limit p.version in omega (arith, few, limit))

    abbrev next : ProgramData
    next = kept_into (after ns) (tree_after ns) n (needs n)

    next_grown : HasGrown p x.tree (length ns + 1) next (inserted n new (tree_after ns))
    next_grown = record {
      program = inserted_program (after ns) s.grown.program (tree_after ns) n op_for function_for valid can_insert;
      plan = inserted_plan (after ns) s.grown.program (tree_after ns) n op_for function_for valid can_insert;
      has_old = λ at there. has-inserted at n new (tree_after ns) (s.grown.has_old at there);
      attributes = λ at k there h.
          let same = attributes_same (after ns) s.grown.program (tree_after ns) n op_for function_for valid can_insert at k
          (s.grown.has_old at there) in
          same.1 (s.grown.attributes at k there h);
      times =
          let one = one_operator (after ns).ops (record op_for { function = length (after ns).functions }) refl in
          let t = s.grown.times in
          omega (arith, one, t);
    }

    pub stands_one_more : IsAbsent n ns → Stands (ns ++ n ∷ [])
    stands_one_more absent =
        let count : length ns + 1 ≡ length (ns ++ n ∷ []) = sym (length-append ns (n ∷ [])) in
        let tree_is = sym (one_more_tree p x.tree needs ns n absent may.old may.edge) in
        let program_is = sym (one_more p x.tree needs ns n absent may.old may.edge) in
        record {
          grown =
              subst (λ (k : ℕ). HasGrown p x.tree k (after (ns ++ n ∷ [])) (tree_after (ns ++ n ∷ []))) count
              (subst (λ (t : PlanTree). HasGrown p x.tree (length ns + 1) (after (ns ++ n ∷ [])) t) tree_is
              (subst (λ (q : ProgramData). HasGrown p x.tree (length ns + 1) q (inserted n new (tree_after ns))) program_is next_grown));
          physical =
              subst IsPhysical (sym (one_more_edge p x.tree needs ns n absent may.old may.edge x refl))
              (inserted_physical n new (with_cut_edges p x ns) s.physical (s.grown.has_old n may.there) (λ e. may.edge (sym root_same ∙ sym e))
              (next_below (after ns).functions (after ns).ops (tree_after ns) s.grown.plan can_insert.room)
              (absent_new (after ns) s.grown.program (tree_after ns) n op_for function_for valid can_insert));
        }

  pub stands_none : IsPlanOf p.functions p.ops x.tree → IsPhysical x → Stands []
  stands_none plan physical =
      let bare : HasGrown p x.tree 0 p x.tree = record {
        program = program;
        plan = plan;
        has_old = λ at there. there;
        attributes = λ at k there h. h;
        times = omega arith;
      } in
      let tree_is : tree_after [] ≡ x.tree = ap (λ (y : PhysicalData). y.tree) (none_edge p x) in
      record {
        grown =
            subst (λ (t : PlanTree). HasGrown p x.tree 0 (after []) t) (sym tree_is)
            (subst (λ (q : ProgramData). HasGrown p x.tree 0 q x.tree) (sym (none_more p x.tree needs)) bare);
        physical = subst IsPhysical (sym (none_edge p x)) physical;
      }

  more_put_in : (front rest : List ℕ) → Stands front → AllByRecursion MayCut rest → AreDifferent (front ++ rest)
      → times_of_kind is_operator_kind p.ops + length front + length rest ≤ operator_limit
      → length p.functions + length front + length rest ≤ function_limit → Stands (front ++ rest)
  more_put_in front [] h may d room function_room = subst Stands (sym (append-nil front)) h
  more_put_in front (n ∷ rest) h may d room function_room =
      let apart = (AreDifferent-parts front (n ∷ rest) d).2 in
      let absent = IsAbsent-from n front (λ m i e. apart m i (inl e)) in
      let one = stands_one_more front h n may.0 (omega (arith, room)) (omega (arith, function_room)) absent in
      let same : (front ++ n ∷ []) ++ rest ≡ front ++ n ∷ rest = append_assoc front (n ∷ []) rest in
      let long = length-append front (n ∷ []) in
      let differ = subst AreDifferent (sym same) d in
      subst Stands same (more_put_in (front ++ n ∷ []) rest one may.1 differ (omega (arith, room, long)) (omega (arith, function_room, long)))

  -- The program with all Maps is valid, its plan is one of its plans, and the physical plan is a valid one.
  pub all_put_in : IsPlanOf p.functions p.ops x.tree → IsPhysical x → (ns : List ℕ) → AllByRecursion MayCut ns → AreDifferent ns
      → times_of_kind is_operator_kind p.ops + length ns ≤ operator_limit
      → length p.functions + length ns ≤ function_limit → Stands ns
  all_put_in plan physical ns may d room function_room =
      more_put_in [] ns (stands_none plan physical) may d (omega (arith, room)) (omega (arith, function_room))
