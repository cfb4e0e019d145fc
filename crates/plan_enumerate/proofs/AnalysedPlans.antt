-- What the analysis finds in the context that an operator has in a plan is what is known of it there; and tables are
-- filled number by number.
use Rattle.std.proofs.Common.{◌≡◌, ◌==◌, ◌<◌, ◌≤◌, ◌+◌, inl, inr, ℕ, false, List, [], ◌∷◌, ◌++◌, length, slice_get, Some, ap, sym, ◌∙◌, arith}
use Rattle.std.proofs.lemmas.Bool.{cases_Bool, cases_lt, eqb-true}
use Rattle.std.proofs.lemmas.Bool.Decides.{nat_tests}
use Rattle.std.proofs.lemmas.Option.{same_Some}
use Rattle.pact_record.specs.FieldSets.{has_field}
use Rattle.tac_syntax.specs.declared.contexts.Context.{Context}
use Rattle.tac_syntax.specs.declared.declarations.OpKind.{OpKind}
use Rattle.tac_syntax.specs.declared.declarations.OpKind.TheVariants.{Source}
use Rattle.tac_flow.specs.Results.{FoundSets}
use Rattle.tac_flow.specs.Views.{found_of}
use Rattle.plan_trees.specs.Plans.{IsPlan, PlanTree, has, node_limit}
use Rattle.plan_trees.proofs.Ships.{below_limit}
use Rattle.pact_operators.specs.PlanOps.{kind_at, left_keys_in, right_keys_in}
use Rattle.pact_operators.specs.Programs.{IsProgram, ProgramData}
use Rattle.reorder_pair.specs.Places.{IsFoundFor}
use Rattle.reorder_pair.specs.declared.finding.Found.{Found}
use Rattle.ship_strategy.specs.Facts.{Facts, NodeFacts}
use Rattle.ship_strategy.specs.PlanFacts.{facts_of, no_sets, sets_at, unless_source}
use Rattle.ship_strategy.specs.Views.{facts_in, put, unknown}
use Rattle.ship_strategy.specs.declared.tables.Table.{Table}
use Rattle.ship_strategy.proofs.FactsInContext.{facts_away}
use Rattle.ship_strategy.proofs.PlanSets.{sets_are}
use Rattle.plan_enumerate.specs.KnownPlans.{AreTablesOf}
use Rattle.plan_enumerate.proofs.LongerLists.{front_or_last}

-- ---- what is found in a context

module _ (p : ProgramData) (n : ℕ) (c : Context) (left_keys : c.left_keys ≡ left_keys_in (slice_get p.ops n)) (right_keys : c.right_keys ≡ right_keys_in (slice_get p.ops n)) where
  pub found_sets : IsProgram p → (kind_at p.ops n ≡ Source → ⊥) → (s : Found) → IsFoundFor p n c s → found_of s.sets ≡ sets_at p n (has_field c.left) (has_field c.right)
  found_sets program operator s h = sets_are p program n h.called operator c (found_of s.sets) h.function left_keys right_keys h.sets

pub source_sets : (p : ProgramData) (n left right : ℕ) (s : FoundSets) → s ≡ no_sets → kind_at p.ops n ≡ Source → s ≡ sets_at p n (has_field left) (has_field right)
source_sets p n left right s none source = none ∙ sym (source_none (kind_at p.ops n) _ source) where
  source_none : (kind : OpKind) (s : FoundSets) → kind ≡ Source → unless_source kind s ≡ no_sets
  source_none kind s e = ap (λ (k : OpKind). unless_source k s) e

-- ---- number by number

-- The table has what is known of the numbers before this one, and nothing about the others.
pub record IsFilledBelow (f : Facts) (n : ℕ) (g : Facts) : Type 0 where
  pub below : (k : ℕ) → k < n → g k ≡ f k
  pub above : (k : ℕ) → n ≤ k → g k ≡ unknown

module _ (f : Facts) where
  pub nothing_filled : (g : Facts) → g ≡ (λ k. unknown) → IsFilledBelow f 0 g
  nothing_filled g e = record { below = λ k l. absurd (omega (arith, l)); above = λ k l i. e i k }

  pub one_filled : (n : ℕ) (x : NodeFacts) (g h : Facts) → x ≡ f n → h ≡ put n x g → IsFilledBelow f n g → IsFilledBelow f (n + 1) h
  one_filled n x g h is e filled = record {
    below = λ k l. (λ i. e i k) ∙ at k l;
    above = λ k l. (λ i. e i k) ∙ other k l;
  } where
    at : (k : ℕ) → k < n + 1 → put n x g k ≡ f k
    at k l = elim (cases_Bool (k == n)) as (λ _. put n x g k ≡ f k) [
      | inl same ↦ let place = eqb-true k n same in rw same (is ∙ ap f (sym place))
      | inr not ↦ let less : k < n = grind (arith, nat_tests) in rw not (filled.below k less)
    ]

    other : (k : ℕ) → n + 1 ≤ k → put n x g k ≡ unknown
    other k l = let test : (k == n) ≡ false = grind (arith, nat_tests) in rw test (filled.above k (omega (arith, l)))

pub all_filled : (p : ProgramData) (t : PlanTree) (g : Facts) → IsPlan t → IsFilledBelow (facts_of p t) node_limit g → g ≡ facts_of p t
all_filled p t g plan h = λ i k. at k i where
  at : (k : ℕ) → g k ≡ facts_of p t k
  at k = elim (cases_lt k node_limit) as (λ _. g k ≡ facts_of p t k) [
    | inl less ↦ h.below k less
    | inr more ↦ h.above k more ∙ sym (facts_away p t k (away k more))
  ] where
    away : (k : ℕ) → node_limit ≤ k → has k t ≡ false
    away k more = elim (cases_Bool (has k t)) as (λ _. has k t ≡ false) [
      | inl there ↦ let less = below_limit k t plan there in absurd (omega (arith, less, more))
      | inr other ↦ other
    ]

-- ---- plan by plan

pub one_more_known : (p : ProgramData) (plans : List PlanTree) (tables : List Table) (t : PlanTree) (x : Table) → AreTablesOf p plans tables → slice_get plans (length tables) ≡ Some t → facts_in x ≡ facts_of p t
    → AreTablesOf p plans (tables ++ x ∷ [])
one_more_known p plans tables t x known is facts n u y at here = elim (front_or_last tables x n y here) as (λ _. facts_in y ≡ facts_of p u) [
  | inl old ↦ known n u y at old
  | inr last ↦
      let same : t ≡ u = same_Some t u (sym is ∙ ap (slice_get plans) (sym last.0) ∙ at) in
      ap facts_in last.1 ∙ facts ∙ ap (facts_of p) same
]
