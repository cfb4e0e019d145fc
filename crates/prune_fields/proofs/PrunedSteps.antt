-- One more number is pruned.
use Rattle.std.proofs.Common.{◌≡◌, ◌∙◌, ◌<◌, ◌≤◌, ◌+◌, inl, inr, ℕ, true, false, List, [], ◌∷◌, ◌++◌, length, refl, sym, ap, subst, arith}
use Rattle.std.specs.List.{AllZip}
use Rattle.std.proofs.lemmas.Bool.{cases_Bool, cases_lt}
use Rattle.pact_record.specs.FieldSets.{has_field}
use Rattle.plan_trees.specs.Inserted.{inserted_above}
use Rattle.plan_trees.specs.Physicals.{IsPhysical, PhysicalData}
use Rattle.tac_syntax.specs.Contexts.{FieldSet}
use Rattle.pact_operators.specs.Programs.{IsPlanOf, IsProgram, ProgramData, function_limit, is_operator_kind, operator_limit, times_of_kind}
use Rattle.prune_fields.specs.declared.pruning.Kept.{Kept}
use Rattle.prune_fields.specs.Insertions.{CanKeep, kept_into, with_cut_edges, with_keeps}
use Rattle.prune_fields.specs.Needs.{need}
use Rattle.prune_fields.specs.PrunedPlans.{IsNeedOf, IsPrunedBelow, cut_below, is_cut, physical_below, program_below, room}
use Rattle.prune_fields.proofs.AllKeeps.{MayCut, Stands, can_insert}
use Rattle.prune_fields.proofs.BesideLists.{AllZip-append}
use Rattle.prune_fields.proofs.CutNumbers.{cut_absent, cut_full, cut_none, cut_not, cut_so, is_room, no_function_room, no_operator_room}
use Rattle.prune_fields.proofs.OneMoreKeep.{functions_length, none_edge, none_more, one_more, one_more_edge}
use Rattle.prune_fields.proofs.PrunedPlans.{cut_stands, may_cut}

-- at first no number is pruned
pub none_pruned : (p q : ProgramData) (x y : PhysicalData) (kept : List Kept) → q ≡ p → y ≡ x → kept ≡ [] → IsPrunedBelow p x 0 q y kept
none_pruned p q x y kept e f g =
    let none = cut_none p x in
    record {
      program = e ∙ sym (none_more p x.tree (need p x.tree)) ∙ ap (with_keeps p x.tree (need p x.tree)) (sym none);
      physical = f ∙ sym (none_edge p x) ∙ ap (with_cut_edges p x) (sym none);
      needs =
          subst (λ (k : List Kept). AllZip (IsNeedOf p x.tree) k (cut_below p x 0)) (sym g)
          (subst (λ (l : List ℕ). AllZip (IsNeedOf p x.tree) [] l) (sym none) tt);
    }

same_cut : (p : ProgramData) (x : PhysicalData) (at : ℕ) (q : ProgramData) (y : PhysicalData) (kept : List Kept)
    → cut_below p x (at + 1) ≡ cut_below p x at → IsPrunedBelow p x at q y kept → IsPrunedBelow p x (at + 1) q y kept
same_cut p x at q y kept e h = record {
  program = h.program ∙ ap (with_keeps p x.tree (need p x.tree)) (sym e);
  physical = h.physical ∙ ap (with_cut_edges p x) (sym e);
  needs = subst (λ (l : List ℕ). AllZip (IsNeedOf p x.tree) kept l) (sym e) h.needs;
}

-- there is room for one more Map
abbrev pub HasRoom : ProgramData → Type 0
HasRoom q = (times_of_kind is_operator_kind q.ops < operator_limit) × (length q.functions < function_limit)

-- a program and a physical plan, pruned below a number
module _ {p : ProgramData} {x : PhysicalData} {at : ℕ} {q : ProgramData} {y : PhysicalData} {kept : List Kept} (program : IsProgram p)
    (plan : IsPlanOf p.functions p.ops x.tree) (physical : IsPhysical x)
    (lt : at < length p.ops) (h : IsPrunedBelow p x at q y kept) where
  abbrev ns : List ℕ
  ns = cut_below p x at

  abbrev Needs : ℕ → FieldSet
  Needs = need p x.tree

  pub not_cut : false ≡ is_cut p x at → IsPrunedBelow p x (at + 1) q y kept
  not_cut e = same_cut p x at q y kept (cut_not p x at (sym e)) h

  standing : Stands p x Needs program ns
  standing = cut_stands p x program plan physical at (omega (arith, lt))

  times_are : times_of_kind is_operator_kind q.ops ≡ times_of_kind is_operator_kind p.ops + length ns
  times_are = ap (λ (r : ProgramData). times_of_kind is_operator_kind r.ops) h.program ∙ standing.grown.times

  functions_are : length q.functions ≡ length p.functions + length ns
  functions_are = ap (λ (r : ProgramData). length r.functions) h.program ∙ functions_length p x.tree Needs ns

  pub no_room : (HasRoom q → ⊥) → IsPrunedBelow p x (at + 1) q y kept
  no_room none = elim (cases_Bool (is_cut p x at)) as (λ _. IsPrunedBelow p x (at + 1) q y kept) [
    | inl cut ↦ same_cut p x at q y kept (cut_full p x at cut full) h
    | inr other ↦ not_cut (sym other)
  ]
    where
      full : room p ≤ length ns
      full = elim (cases_lt (times_of_kind is_operator_kind q.ops) operator_limit) as (λ _. room p ≤ length ns) [
        | inl some ↦ elim (cases_lt (length q.functions) function_limit) as (λ _. room p ≤ length ns) [
          | inl more ↦ absurd (none (some, more))
          | inr past ↦ no_function_room p x (length ns) (omega (arith, past, functions_are))
        ]
        | inr past ↦ no_operator_room p x (length ns) (omega (arith, past, times_are))
      ]

  module _ (cut : true ≡ is_cut p x at) (has_room : HasRoom q) (needed : ℕ) (is_need : has_field needed ≡ need p x.tree at) where
    operators_left : times_of_kind is_operator_kind p.ops + length ns < operator_limit
    operators_left = let r = has_room.0 in omega (arith, r, times_are)

    functions_left : length p.functions + length ns < function_limit
    functions_left = let r = has_room.1 in omega (arith, r, functions_are)

    pub may_insert : CanKeep q y.tree at (has_field needed)
    may_insert =
        let may = may_cut p x program plan at lt (sym cut) in
        let can = can_insert p x Needs program ns standing at may operators_left functions_left in
        subst (λ (r : ProgramData). CanKeep r y.tree at (has_field needed)) (sym h.program)
        (subst (λ (z : PhysicalData). CanKeep (program_below p x at) z.tree at (has_field needed)) (sym h.physical)
        (subst (λ (s : FieldSet). CanKeep (program_below p x at) (physical_below p x at).tree at s) (sym is_need) can))

    -- the result after the Map for the next number is inserted
    module _ (u : ProgramData) (v : PhysicalData) (k : Kept) (of_u : u ≡ kept_into q y.tree at (has_field needed))
        (of_v : v ≡ inserted_above at (length q.ops) y) (of_at : k.at ≡ at) (of_fields : k.fields ≡ needed) where
      one_more_is : cut_below p x (at + 1) ≡ ns ++ at ∷ []
      one_more_is = cut_so p x at (sym cut) (is_room p x (length ns) operators_left functions_left)

      may : MayCut p x Needs program at
      may = may_cut p x program plan at lt (sym cut)

      program_is : u ≡ with_keeps p x.tree Needs (ns ++ at ∷ [])
      program_is =
          let q_is = h.program in
          let y_is = h.physical in
          of_u ∙ (λ i. kept_into (q_is i) (y_is i).tree at (is_need i)) ∙ sym (one_more p x.tree Needs ns at (cut_absent p x at) lt may.edge)

      physical_is : v ≡ with_cut_edges p x (ns ++ at ∷ [])
      physical_is =
          let q_is = h.program in
          let y_is = h.physical in
          of_v ∙ (λ i. inserted_above at (length (q_is i).ops) (y_is i))
          ∙ sym (one_more_edge p x.tree Needs ns at (cut_absent p x at) lt may.edge x refl)

      needs_are : AllZip (IsNeedOf p x.tree) (kept ++ k ∷ []) (ns ++ at ∷ [])
      needs_are =
          let one : IsNeedOf p x.tree k at = record { at = of_at; fields = ap has_field of_fields ∙ is_need } in
          AllZip-append (IsNeedOf p x.tree) kept ns (k ∷ []) (at ∷ []) h.needs (one, tt)

      pub put_in : IsPrunedBelow p x (at + 1) u v (kept ++ k ∷ [])
      put_in = record {
        program = program_is ∙ ap (with_keeps p x.tree Needs) (sym one_more_is);
        physical = physical_is ∙ ap (with_cut_edges p x) (sym one_more_is);
        needs = subst (λ (l : List ℕ). AllZip (IsNeedOf p x.tree) (kept ++ k ∷ []) l) (sym one_more_is) needs_are;
      }
