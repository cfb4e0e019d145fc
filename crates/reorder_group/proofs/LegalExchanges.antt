-- A legal exchange of a Reduce and a Match keeps the answers of a plan; and with it a legal exchange by any rule.
use Rattle.std.proofs.Common.{◌≡◌, ◌⊎◌, inl, inr, ℕ, false, List, slice_get, sym, subst}
use Rattle.std.proofs.lemmas.Bool.{cases_Bool}
use Rattle.std.specs.List.{AllByRecursion}
use Rattle.pact_record.specs.FieldSets.{has_field}
use Rattle.pact_record.specs.Keys.{is_listed}
use Rattle.tac_syntax.specs.declared.contexts.Side.TheVariants.{Left as on_left}
use Rattle.tac_syntax.specs.Call.{of_pair}
use Rattle.tac_syntax.specs.CallInputs.{IsInputOf}
use Rattle.tac_syntax.specs.Contexts.{Has}
use Rattle.tac_syntax.specs.Valid.{WithFields}
use Rattle.tac_syntax.specs.declared.declarations.OpKind.{OpKind}
use Rattle.tac_syntax.specs.declared.declarations.OpKind.TheVariants.{Match, Reduce}
use Rattle.plan_trees.specs.Plans.{PlanTree, over, both}
use Rattle.pact_operators.specs.Allowed.{AllowSame, Bag}
use Rattle.pact_operators.specs.PlanOps.{PlanOps, kind_at, left_keys_in, plan_ops, right_keys_in}
use Rattle.pact_operators.specs.Programs.{AreSidesApart, HasAttribute, IsPlanOf, IsProgram, ProgramData}
use Rattle.pact_operators.specs.SoundOps.{AreOpsOf, function_kind}
use Rattle.reorder_pair.specs.declared.finding.Found.{Found}
use Rattle.reorder_pair.specs.declared.rules.Role.TheVariants.{Grouping, Matching}
use Rattle.reorder_pair.specs.declared.rules.Rule.{Rule}
use Rattle.reorder_pair.specs.declared.rules.Rule.TheVariants.{ReduceMatchLeft, ReduceMatchLeftUp, ReduceMatchRight, ReduceMatchRightUp}
use Rattle.reorder_pair.specs.Legal.{IsLegal, KeepAnswers}
use Rattle.reorder_pair.specs.Rules.{IsMapOrPairRule, IsUniqueRule, exchanged_by, swapped}
use Rattle.reorder_pair.specs.Unique.{IsUniqueTree}
use Rattle.reorder_pair.proofs.FunctionForms.{Row}
use Rattle.reorder_pair.proofs.FoundOperators.{IsFoundIn, found_turned, used_in}
use Rattle.reorder_pair.proofs.LegalExchanges.{both_found, no_conflict, no_conflict_up, turned_same}
use Rattle.reorder_pair.proofs.PermittedExchanges.{NoConflict}
use Rattle.reorder_pair.proofs.PlacedExchanges.{IsLegalRoot, placed-KeepAnswers}
use Rattle.reorder_pair.proofs.PlacesOfRules.{plays-operator}
use Rattle.reorder_group.proofs.LegalPastGroups as groups
use Rattle.reorder_group.proofs.EmittedByOperators.{one_emitted}
use Rattle.reorder_group.proofs.KeptKeys.{each_listed}
use Rattle.reorder_group.proofs.ReducesPastMatches.{PermitsReduceLeft, PermitsReduceRight, reduce_left_same, reduce_right_same}
use Rattle.reorder_group.proofs.UniqueTrees.{unique_rows}

-- every key of the first list is in the second
abbrev NoneMissing : List ℕ → List ℕ → Type 0
NoneMissing keys others = (k : ℕ) → Has (is_listed keys) k → is_listed others k ≡ false → ⊥

all_listed : (keys others : List ℕ) → NoneMissing keys others → AllByRecursion (Has (is_listed others)) keys
all_listed keys others none =
    each_listed (Has (is_listed others)) keys (λ k is. elim (cases_Bool (is_listed others k)) as (λ _. Has (is_listed others) k) [ inl has ↦ has | inr off ↦ absurd (none k is off) ])

match_input : (q : OpKind) → q ≡ Match → (l r : Row) → IsInputOf (function_kind q) (of_pair l r)
match_input q e l r = subst (λ (k : OpKind). IsInputOf (function_kind k) (of_pair l r)) (sym e) tt

module _ (p : ProgramData) (program : IsProgram p) (inputs : List Bag) (good : AreOpsOf p.fields p.functions p.ops (plan_ops p inputs)) where
  abbrev F : ℕ
  F = p.fields

  abbrev v : List WithFields
  v = p.functions

  abbrev O : PlanOps
  O = plan_ops p inputs

  abbrev left_keys : ℕ → List ℕ
  left_keys n = left_keys_in (slice_get p.ops n)

  abbrev right_keys : ℕ → List ℕ
  right_keys n = right_keys_in (slice_get p.ops n)

  -- ---- the findings permit the exchange; `one` is about the Reduce, and `two` about the Match

  reduce_left_permitted : (f g : ℕ) (t u : PlanTree) (one two : Found) → kind_at p.ops f ≡ Reduce → kind_at p.ops g ≡ Match
      → IsFoundIn p f (over f (both g t u)) (over f t) one → IsFoundIn p g (both g t u) (both g (over f t) u) two → NoConflict (used_in one) (used_in two)
      → ((k : ℕ) → Has (has_field one.sets.touched) k → HasAttribute v p.ops u k → ⊥) → NoneMissing (left_keys g) (left_keys f) → IsUniqueTree p (right_keys g) u → (two.lo ≡ 1) × (two.hi ≡ 1)
      → PermitsReduceLeft F v p.ops O f g t u
  reduce_left_permitted f g t u one two kf kg hf hg c side keys unique bounds = record {
    upper_kind = kf;
    lower_kind = kg;
    upper = used_in one;
    lower = used_in two;
    found = both_found p program inputs good Grouping Matching on_left kf kg tt tt hf hg c;
    side = side;
    match_keys = all_listed (left_keys g) (left_keys f) keys;
    unique = λ rows a. unique_rows p program inputs good (right_keys g) u unique rows a;
    one = λ l r.
        one_emitted p program g (both g t u) (both g (over f t) u) two hg (plays-operator Matching (kind_at p.ops g) kg) bounds.0 bounds.1 (of_pair l r) (match_input (kind_at p.ops g) kg l r) tt;
  }

  reduce_right_permitted : (f g : ℕ) (t u : PlanTree) (one two : Found) → kind_at p.ops f ≡ Reduce → kind_at p.ops g ≡ Match
      → IsFoundIn p f (over f (both g t u)) (over f u) one → IsFoundIn p g (both g t u) (both g t (over f u)) two → NoConflict (used_in one) (used_in two)
      → ((k : ℕ) → Has (has_field one.sets.touched) k → HasAttribute v p.ops t k → ⊥) → NoneMissing (right_keys g) (left_keys f) → IsUniqueTree p (left_keys g) t → (two.lo ≡ 1) × (two.hi ≡ 1)
      → PermitsReduceRight F v p.ops O f g t u
  reduce_right_permitted f g t u one two kf kg hf hg c side keys unique bounds = record {
    upper_kind = kf;
    lower_kind = kg;
    upper = used_in one;
    lower = used_in two;
    found = both_found p program inputs good Grouping Matching on_left kf kg tt tt hf hg c;
    side = side;
    match_keys = all_listed (right_keys g) (left_keys f) keys;
    unique = λ rows a. unique_rows p program inputs good (left_keys g) t unique rows a;
    one = λ l r.
        one_emitted p program g (both g t u) (both g t (over f u)) two hg (plays-operator Matching (kind_at p.ops g) kg) bounds.0 bounds.1 (of_pair l r) (match_input (kind_at p.ops g) kg l r) tt;
  }

  -- ---- at the root

  pub unique_at_root : (rule : Rule) → IsUniqueRule rule → (t : PlanTree) (upper lower : Found) → IsLegalRoot p rule t upper lower → AreSidesApart v p.ops t → AllowSame O t (exchanged_by rule t)
  unique_at_root ReduceMatchLeft i (over f (both g t u)) upper lower x apart =
      let s = x.passes in
      let permits = reduce_left_permitted f g t u upper lower x.above x.below x.upper_in x.lower_in (no_conflict upper lower s.0 s.1.0 s.1.1.0) s.1.1.1.0 s.1.1.1.1.0 s.1.1.1.1.1.0 s.1.1.1.1.1.1.0 in
      reduce_left_same F v p.ops O good f g t u permits apart.0
  unique_at_root ReduceMatchLeftUp i (both g (over f t) u) upper lower x apart =
      let s = x.passes in
      let permits = reduce_left_permitted f g t u lower upper x.below x.above (found_turned p f (over f t) (over f (both g t u)) lower x.lower_in) (found_turned p g (both g (over f t) u) (both g t u) upper x.upper_in)
      (no_conflict_up upper lower s.0 s.1.0 s.1.1.0) s.1.1.1.0 s.1.1.1.1.0 s.1.1.1.1.1.0 s.1.1.1.1.1.1.0 in
      turned_same O (over f (both g t u)) (both g (over f t) u) (reduce_left_same F v p.ops O good f g t u permits (λ k a b. apart.0 k (inr a) b))
  unique_at_root ReduceMatchRight i (over f (both g t u)) upper lower x apart =
      let s = x.passes in
      let permits = reduce_right_permitted f g t u upper lower x.above x.below x.upper_in x.lower_in (no_conflict upper lower s.0 s.1.0 s.1.1.0) s.1.1.1.0 s.1.1.1.1.0 s.1.1.1.1.1.0 s.1.1.1.1.1.1.0 in
      reduce_right_same F v p.ops O good f g t u permits apart.0
  unique_at_root ReduceMatchRightUp i (both g t (over f u)) upper lower x apart =
      let s = x.passes in
      let permits = reduce_right_permitted f g t u lower upper x.below x.above (found_turned p f (over f u) (over f (both g t u)) lower x.lower_in) (found_turned p g (both g t (over f u)) (both g t u) upper x.upper_in)
      (no_conflict_up upper lower s.0 s.1.0 s.1.1.0) s.1.1.1.0 s.1.1.1.1.0 s.1.1.1.1.1.0 s.1.1.1.1.1.1.0 in
      turned_same O (over f (both g t u)) (both g t (over f u)) (reduce_right_same F v p.ops O good f g t u permits (λ k a b. apart.0 k a (inr b)))
  unique_at_root ReduceMatchLeft i t upper lower x apart = absurd x.shape
  unique_at_root ReduceMatchLeftUp i t upper lower x apart = absurd x.shape
  unique_at_root ReduceMatchRight i t upper lower x apart = absurd x.shape
  unique_at_root ReduceMatchRightUp i t upper lower x apart = absurd x.shape
  unique_at_root rule i t upper lower x apart = absurd i

-- ---- at any place of a plan

pub unique-KeepAnswers : (p : ProgramData) → IsProgram p → (plan : PlanTree) → IsPlanOf p.functions p.ops plan → (at : ℕ) (rule : Rule) → IsUniqueRule rule → IsLegal p plan at rule → KeepAnswers p plan (swapped rule at plan)
unique-KeepAnswers p program plan of_program at rule i legal =
    placed-KeepAnswers p program plan of_program at rule legal (λ inputs good t upper lower x apart. unique_at_root p program inputs good rule i t upper lower x apart)

pub either_rule : (rule : Rule) → IsMapOrPairRule rule ⊎ IsUniqueRule rule
either_rule ReduceMatchLeft = inr tt
either_rule ReduceMatchLeftUp = inr tt
either_rule ReduceMatchRight = inr tt
either_rule ReduceMatchRightUp = inr tt
either_rule rule = inl tt

-- for any rule
pub legal-KeepAnswers : (p : ProgramData) → IsProgram p → (plan : PlanTree) → IsPlanOf p.functions p.ops plan → (at : ℕ) (rule : Rule) → IsLegal p plan at rule → KeepAnswers p plan (swapped rule at plan)
legal-KeepAnswers p program plan of_program at rule legal = elim (either_rule rule) as (λ _. KeepAnswers p plan (swapped rule at plan)) [
  | inl i ↦ groups.legal-KeepAnswers p program plan of_program at rule i legal
  | inr i ↦ unique-KeepAnswers p program plan of_program at rule i legal
]
