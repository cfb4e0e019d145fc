-- The earlier findings about an operator in a plan hold now, if its inputs have the same attributes.
use Rattle.std.proofs.Common.{◌≡◌, ◌==◌, inl, inr, ℕ, Bool, true, false, cond, List, [], ◌∷◌, Option, Some, None, refl, ap, sym, ◌∙◌}
use Rattle.std.specs.Prelude.{slice_get}
use Rattle.std.proofs.lemmas.Bool.{and_parts, cases_Bool, eqb-true}
use Rattle.pact_record.specs.FieldSets.{has_field}
use Rattle.tac_syntax.specs.declared.declarations.OpKind.{OpKind}
use Rattle.tac_syntax.specs.declared.declarations.OpKind.TheVariants.{Source, Map, Reduce, Match, Cross, CoGroup}
use Rattle.plan_trees.specs.Plans.{PlanTree, has, subtree_of}
use Rattle.plan_trees.proofs.SubtreesOfPlans.{root_of-subtree}
use Rattle.pact_operators.specs.Programs.{ProgramData, is_operator_kind}
use Rattle.ship_strategy.specs.Facts.{NodeFacts}
use Rattle.ship_strategy.specs.PlanFacts.{facts_at, facts_for, facts_of}
use Rattle.ship_strategy.specs.EarlierFindings.{AreTrueFindings, IsTrueFinding, first_found, is_row_with, or_else, row_with}
use Rattle.ship_strategy.specs.Views.{facts_in, known_in, known_of, unknown}
use Rattle.ship_strategy.proofs.FactsInContext.{facts_away, facts_there}
use Rattle.ship_strategy.specs.declared.tables.OpFacts.{OpFacts}
use Rattle.ship_strategy.specs.declared.tables.Table.{Table}

not_source : (kind : OpKind) → is_operator_kind kind ≡ true → kind ≡ Source → ⊥
not_source Source h e = cc h
not_source Map h e = cc e
not_source Reduce h e = cc e
not_source Match h e = cc e
not_source Cross h e = cc e
not_source CoGroup h e = cc e

row_true : (p : ProgramData) (at left right : ℕ) (y x : OpFacts) → ((y.kind ≡ Source → ⊥) → known_of y ≡ facts_for p at (has_field y.left) (has_field y.right)) → (b : Bool) → b ≡ is_row_with left right y
    → cond b (Some y) None ≡ Some x → known_of x ≡ facts_for p at (has_field left) (has_field right)
row_true p at left right y x told false e h = cc h
row_true p at left right y x told true e h =
    let q = and_parts (is_operator_kind y.kind) _ (sym e) in
    let r = and_parts (y.left == left) (y.right == right) q.1 in
    let l = eqb-true y.left left r.0 in
    let s = eqb-true y.right right r.1 in
    let same : y ≡ x = cc h in
    ap known_of (sym same) ∙ told (not_source y.kind q.0) ∙ (λ i. facts_for p at (has_field (l i)) (has_field (s i)))

pub seen-true : (p : ProgramData) (tables : List Table) (at left right : ℕ) (x : OpFacts) → AreTrueFindings p tables → first_found tables at left right ≡ Some x
    → known_of x ≡ facts_for p at (has_field left) (has_field right)
seen-true p [] at left right x h e = cc e
seen-true p (t ∷ tables) at left right x h e = at_row (slice_get t.nodes at) (λ y is. h.0 at y is) (seen-true p tables at left right x h.1) e where
  at_row : (o : Option OpFacts) → ((y : OpFacts) → o ≡ Some y → (y.kind ≡ Source → ⊥) → known_of y ≡ facts_for p at (has_field y.left) (has_field y.right))
      → (first_found tables at left right ≡ Some x → known_of x ≡ facts_for p at (has_field left) (has_field right))
      → or_else (row_with left right o) (first_found tables at left right) ≡ Some x → known_of x ≡ facts_for p at (has_field left) (has_field right)
  at_row None k others f = others f
  at_row (Some y) k others f = elim (cases_Bool (is_row_with left right y)) [
    | inl b ↦ row_true p at left right y x (k y refl) true (sym b) (simp b at f)
    | inr b ↦ others (simp b at f)
  ]

-- ---- the rows of a plan's table

known_told : (p : ProgramData) (t : PlanTree) (n : ℕ) (f : NodeFacts) → f ≡ facts_of p t n → (f.kind ≡ Source → ⊥) → f ≡ facts_for p n f.left f.right
known_told p t n f e operator = elim (cases_Bool (has n t)) [
  | inl there ↦ in_plan there (e ∙ facts_there p t n there)
  | inr away ↦ absurd (operator (ap (λ (g : NodeFacts). g.kind) (e ∙ facts_away p t n away)))
] where
  in_plan : has n t ≡ true → f ≡ facts_at p (subtree_of n t) → f ≡ facts_for p n f.left f.right
  in_plan h is =
      let root = root_of-subtree n t h in
      let left = sym (ap (λ (g : NodeFacts). g.left) is) in
      let right = sym (ap (λ (g : NodeFacts). g.right) is) in
      is ∙ (λ i. facts_for p (root i) (left i) (right i))

pub told : (p : ProgramData) (t : PlanTree) (table : Table) → facts_in table ≡ facts_of p t → IsTrueFinding p table
told p t table e n x at operator = known_told p t n (known_of x) (sym (ap known_in at) ∙ (λ i. e i n)) operator

-- a table in which nothing was seen
pub blank_told : (p : ProgramData) (table : Table) → facts_in table ≡ (λ k. unknown) → IsTrueFinding p table
blank_told p table e n x at operator = absurd (operator (ap (λ (g : NodeFacts). g.kind) (sym (ap known_in at) ∙ (λ i. e i n))))
