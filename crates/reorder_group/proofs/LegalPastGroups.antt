-- A legal exchange keeps the answers of a plan, by each of the first thirteen rules.
use Rattle.std.proofs.Common.{◌≡◌, inr, ℕ, true, List, slice_get}
use Rattle.pact_record.specs.FieldSets.{has_field}
use Rattle.tac_syntax.specs.declared.contexts.Side.TheVariants.{Left as on_left, Right as on_right}
use Rattle.tac_syntax.specs.Contexts.{Has}
use Rattle.tac_syntax.specs.Valid.{WithFields}
use Rattle.tac_syntax.specs.declared.declarations.OpKind.TheVariants.{Map, Reduce, CoGroup}
use Rattle.plan_trees.specs.Plans.{PlanTree, over, both}
use Rattle.pact_operators.specs.Allowed.{AllowSame, Bag}
use Rattle.pact_operators.specs.PlanOps.{PlanOps, kind_at, left_keys_in, plan_ops, right_keys_in}
use Rattle.pact_operators.specs.Programs.{AreSidesApart, HasAttribute, IsPlanOf, IsProgram, ProgramData}
use Rattle.pact_operators.specs.SoundOps.{AreOpsOf}
use Rattle.reorder_pair.specs.declared.finding.Found.{Found}
use Rattle.reorder_pair.specs.declared.rules.Role.TheVariants.{CoGrouping, Grouping, Mapping}
use Rattle.reorder_pair.specs.declared.rules.Rule.{Rule}
use Rattle.reorder_pair.specs.declared.rules.Rule.TheVariants.{MapMap, MapLeft, MapLeftUp, MapRight, MapRightUp, Rotate, RotateUp, MapReduce, MapReduceUp, MapCoGroupLeft, MapCoGroupLeftUp, MapCoGroupRight, MapCoGroupRightUp, ReduceMatchLeft, ReduceMatchLeftUp, ReduceMatchRight, ReduceMatchRightUp}
use Rattle.reorder_pair.specs.Conditions.{IsBoundTo, uses_of}
use Rattle.reorder_pair.specs.Legal.{IsLegal, KeepAnswers}
use Rattle.reorder_pair.specs.Rules.{IsMapOrPairRule, exchanged_by, swapped}
use Rattle.reorder_pair.proofs.FoundOperators.{IsFoundIn, found_turned, used_in}
use Rattle.reorder_pair.proofs.LegalExchanges.{both_found, no_conflict, no_conflict_up, pair_at_root, turned_same}
use Rattle.reorder_pair.proofs.PermittedExchanges.{NoConflict}
use Rattle.reorder_pair.proofs.PlacedExchanges.{IsLegalRoot, placed-KeepAnswers}
use Rattle.reorder_group.proofs.FoundGroups.{groups_found}
use Rattle.reorder_group.proofs.GroupLaws.{cogroup_left_same, cogroup_right_same, reduce_same}
use Rattle.reorder_group.proofs.PermittedGroups.{PermitsCoGroupLeft, PermitsCoGroupRight, PermitsReduce}

module _ (p : ProgramData) (program : IsProgram p) (inputs : List Bag) (good : AreOpsOf p.fields p.functions p.ops (plan_ops p inputs)) where
  abbrev F : ℕ
  F = p.fields

  abbrev v : List WithFields
  v = p.functions

  abbrev O : PlanOps
  O = plan_ops p inputs

  -- ---- the findings permit the exchange; `one` is about the Map, and `two` about the operator that groups

  reduce_permitted : (f g : ℕ) (t : PlanTree) (one two : Found) → kind_at p.ops f ≡ Map → kind_at p.ops g ≡ Reduce
      → IsFoundIn p f (over f (over g t)) (over f t) one → IsFoundIn p g (over g t) (over g (over f t)) two → NoConflict (used_in one) (used_in two)
      → IsBoundTo (uses_of one) (left_keys_in (slice_get p.ops g)) → PermitsReduce F v p.ops O f g t
  reduce_permitted f g t one two kf kg hf hg c bound = record {
    upper_kind = kf;
    lower_kind = kg;
    upper = used_in one;
    lower = used_in two;
    found = both_found p program inputs good Mapping Grouping on_left kf kg tt tt hf hg c;
    keeps = groups_found p program f (over f (over g t)) (over f t) one hf inputs (left_keys_in (slice_get p.ops g)) kf bound;
  }

  cogroup_left_permitted : (f g : ℕ) (t u : PlanTree) (one two : Found) → kind_at p.ops f ≡ Map → kind_at p.ops g ≡ CoGroup
      → IsFoundIn p f (over f (both g t u)) (over f t) one → IsFoundIn p g (both g t u) (both g (over f t) u) two → NoConflict (used_in one) (used_in two)
      → ((k : ℕ) → Has (has_field one.sets.touched) k → HasAttribute v p.ops u k → ⊥) → two.sets.anchor_left ≡ true → IsBoundTo (uses_of one) (left_keys_in (slice_get p.ops g))
      → PermitsCoGroupLeft F v p.ops O f g t u
  cogroup_left_permitted f g t u one two kf kg hf hg c side on bound = record {
    upper_kind = kf;
    lower_kind = kg;
    upper = used_in one;
    lower = used_in two;
    found = both_found p program inputs good Mapping CoGrouping on_left kf kg tt on hf hg c;
    side = side;
    keeps = groups_found p program f (over f (both g t u)) (over f t) one hf inputs (left_keys_in (slice_get p.ops g)) kf bound;
  }

  cogroup_right_permitted : (f g : ℕ) (t u : PlanTree) (one two : Found) → kind_at p.ops f ≡ Map → kind_at p.ops g ≡ CoGroup
      → IsFoundIn p f (over f (both g t u)) (over f u) one → IsFoundIn p g (both g t u) (both g t (over f u)) two → NoConflict (used_in one) (used_in two)
      → ((k : ℕ) → Has (has_field one.sets.touched) k → HasAttribute v p.ops t k → ⊥) → two.sets.anchor_right ≡ true → IsBoundTo (uses_of one) (right_keys_in (slice_get p.ops g))
      → PermitsCoGroupRight F v p.ops O f g t u
  cogroup_right_permitted f g t u one two kf kg hf hg c side on bound = record {
    upper_kind = kf;
    lower_kind = kg;
    upper = used_in one;
    lower = used_in two;
    found = both_found p program inputs good Mapping CoGrouping on_right kf kg tt on hf hg c;
    side = side;
    keeps = groups_found p program f (over f (both g t u)) (over f u) one hf inputs (right_keys_in (slice_get p.ops g)) kf bound;
  }

  -- ---- at the root

  at_root : (rule : Rule) → IsMapOrPairRule rule → (t : PlanTree) (upper lower : Found) → IsLegalRoot p rule t upper lower → AreSidesApart v p.ops t → AllowSame O t (exchanged_by rule t)
  at_root MapReduce i (over f (over g t)) upper lower x apart =
      let permits = reduce_permitted f g t upper lower x.above x.below x.upper_in x.lower_in (no_conflict upper lower x.passes.0 x.passes.1.0 x.passes.1.1.0) x.passes.1.1.1.0 in
      reduce_same F v p.ops O good f g t permits
  at_root MapReduceUp i (over g (over f t)) upper lower x apart =
      let permits = reduce_permitted f g t lower upper x.below x.above (found_turned p f (over f t) (over f (over g t)) lower x.lower_in) (found_turned p g (over g (over f t)) (over g t) upper x.upper_in)
      (no_conflict_up upper lower x.passes.0 x.passes.1.0 x.passes.1.1.0) x.passes.1.1.1.0 in
      turned_same O (over f (over g t)) (over g (over f t)) (reduce_same F v p.ops O good f g t permits)
  at_root MapCoGroupLeft i (over f (both g t u)) upper lower x apart =
      let permits = cogroup_left_permitted f g t u upper lower x.above x.below x.upper_in x.lower_in (no_conflict upper lower x.passes.0 x.passes.1.0 x.passes.1.1.0)
      x.passes.1.1.1.0 x.passes.1.1.1.1.0 x.passes.1.1.1.1.1.0 in
      cogroup_left_same F v p.ops O good f g t u permits apart.0
  at_root MapCoGroupLeftUp i (both g (over f t) u) upper lower x apart =
      let permits = cogroup_left_permitted f g t u lower upper x.below x.above (found_turned p f (over f t) (over f (both g t u)) lower x.lower_in) (found_turned p g (both g (over f t) u) (both g t u) upper x.upper_in)
      (no_conflict_up upper lower x.passes.0 x.passes.1.0 x.passes.1.1.0) x.passes.1.1.1.0 x.passes.1.1.1.1.0 x.passes.1.1.1.1.1.0 in
      turned_same O (over f (both g t u)) (both g (over f t) u) (cogroup_left_same F v p.ops O good f g t u permits (λ k a b. apart.0 k (inr a) b))
  at_root MapCoGroupRight i (over f (both g t u)) upper lower x apart =
      let permits = cogroup_right_permitted f g t u upper lower x.above x.below x.upper_in x.lower_in (no_conflict upper lower x.passes.0 x.passes.1.0 x.passes.1.1.0)
      x.passes.1.1.1.0 x.passes.1.1.1.1.0 x.passes.1.1.1.1.1.0 in
      cogroup_right_same F v p.ops O good f g t u permits apart.0
  at_root MapCoGroupRightUp i (both g t (over f u)) upper lower x apart =
      let permits = cogroup_right_permitted f g t u lower upper x.below x.above (found_turned p f (over f u) (over f (both g t u)) lower x.lower_in) (found_turned p g (both g t (over f u)) (both g t u) upper x.upper_in)
      (no_conflict_up upper lower x.passes.0 x.passes.1.0 x.passes.1.1.0) x.passes.1.1.1.0 x.passes.1.1.1.1.0 x.passes.1.1.1.1.1.0 in
      turned_same O (over f (both g t u)) (both g t (over f u)) (cogroup_right_same F v p.ops O good f g t u permits (λ k a b. apart.0 k a (inr b)))
  at_root ReduceMatchLeft i t upper lower x apart = absurd i
  at_root ReduceMatchLeftUp i t upper lower x apart = absurd i
  at_root ReduceMatchRight i t upper lower x apart = absurd i
  at_root ReduceMatchRightUp i t upper lower x apart = absurd i
  at_root MapReduce i t upper lower x apart = absurd x.shape
  at_root MapReduceUp i t upper lower x apart = absurd x.shape
  at_root MapCoGroupLeft i t upper lower x apart = absurd x.shape
  at_root MapCoGroupLeftUp i t upper lower x apart = absurd x.shape
  at_root MapCoGroupRight i t upper lower x apart = absurd x.shape
  at_root MapCoGroupRightUp i t upper lower x apart = absurd x.shape
  at_root MapMap i t upper lower x apart = pair_at_root p program inputs good MapMap tt t upper lower x apart
  at_root MapLeft i t upper lower x apart = pair_at_root p program inputs good MapLeft tt t upper lower x apart
  at_root MapLeftUp i t upper lower x apart = pair_at_root p program inputs good MapLeftUp tt t upper lower x apart
  at_root MapRight i t upper lower x apart = pair_at_root p program inputs good MapRight tt t upper lower x apart
  at_root MapRightUp i t upper lower x apart = pair_at_root p program inputs good MapRightUp tt t upper lower x apart
  at_root Rotate i t upper lower x apart = pair_at_root p program inputs good Rotate tt t upper lower x apart
  at_root RotateUp i t upper lower x apart = pair_at_root p program inputs good RotateUp tt t upper lower x apart

-- at any place of a plan
pub legal-KeepAnswers : (p : ProgramData) → IsProgram p → (plan : PlanTree) → IsPlanOf p.functions p.ops plan → (at : ℕ) (rule : Rule) → IsMapOrPairRule rule → IsLegal p plan at rule → KeepAnswers p plan (swapped rule at plan)
legal-KeepAnswers p program plan of_program at rule i legal =
    placed-KeepAnswers p program plan of_program at rule legal (λ inputs good t upper lower x apart. at_root p program inputs good rule i t upper lower x apart)
