-- A legal exchange in which no group is made keeps the answers of a plan.
use Rattle.std.proofs.Common.{◌≡◌, inl, inr, ℕ, true, List, sym, subst}
use Rattle.std.proofs.lemmas.Bool.{false_from_ne_true}
use Rattle.pact_record.specs.FieldSets.{has_field}
use Rattle.tac_syntax.specs.declared.contexts.Side.{Side}
use Rattle.tac_syntax.specs.declared.contexts.Side.TheVariants.{Left as on_left, Right as on_right}
use Rattle.tac_syntax.specs.Contexts.{FieldSet, Has}
use Rattle.tac_flow.specs.Results.{IsAnchoredOn}
use Rattle.tac_flow.specs.Views.{found_of}
use Rattle.tac_syntax.specs.declared.declarations.OpKind.{OpKind}
use Rattle.tac_syntax.specs.declared.declarations.OpKind.TheVariants.{Map, Reduce, Match, Cross, CoGroup}
use Rattle.plan_trees.specs.Plans.{PlanTree, over, both}
use Rattle.pact_operators.specs.Allowed.{AllowSame, Bag}
use Rattle.pact_operators.specs.PlanOps.{PlanOps, kind_at, plan_ops}
use Rattle.pact_operators.specs.Programs.{AreSidesApart, HasAttribute, IsPlanOf, IsProgram, ProgramData}
use Rattle.pact_operators.specs.SoundOps.{AreOpsOf, function_kind}
use Rattle.reorder_pair.specs.declared.finding.Found.{Found}
use Rattle.tac_syntax.specs.Valid.{WithFields}
use Rattle.reorder_pair.specs.declared.rules.Role.{Role}
use Rattle.reorder_pair.specs.declared.rules.Role.TheVariants.{Mapping, Pairing, Grouping, CoGrouping, Matching}
use Rattle.reorder_pair.specs.declared.rules.Rule.{Rule}
use Rattle.reorder_pair.specs.declared.rules.Rule.TheVariants.{MapMap, MapLeft, MapLeftUp, MapRight, MapRightUp, Rotate, RotateUp}
use Rattle.reorder_pair.specs.Legal.{IsLegal, KeepAnswers}
use Rattle.reorder_pair.specs.Rules.{IsPairRule, Plays, exchanged_by, swapped}
use Rattle.reorder_pair.proofs.PermittedExchanges.{AreFound, NoConflict, PermitsLeft, PermitsMaps, PermitsRight, PermitsRotate}
use Rattle.reorder_pair.proofs.FoundOperators.{IsFoundIn, found_turned, sets_found, used_in}
use Rattle.reorder_pair.proofs.PlacedExchanges.{IsLegalRoot, placed-KeepAnswers}
use Rattle.reorder_pair.proofs.PairLaws.{left_same, maps_same, right_same, rotate_same}
use Rattle.reorder_pair.proofs.PlacesOfRules.{plays-operator}

pub turned_same : (o : PlanOps) (t u : PlanTree) → AllowSame o t u → AllowSame o u t
turned_same o t u e bag = ((e bag).1, (e bag).0)

pub same_through : (o : PlanOps) (s t u : PlanTree) → AllowSame o s t → AllowSame o t u → AllowSame o s u
same_through o s t u h k bag = ((λ a. (k bag).0 ((h bag).0 a)), (λ a. (h bag).1 ((k bag).1 a)))

-- whether an operator of a role has an anchor on a side: every kind but a CoGroup always has
abbrev pub HasAnchor : Role → Side → Found → Type 0
HasAnchor CoGrouping on_left s = s.sets.anchor_left ≡ true
HasAnchor CoGrouping on_right s = s.sets.anchor_right ≡ true
HasAnchor role side s = Unit {0}

same_anchor : (q r : OpKind) (side : Side) (s : Found) → q ≡ r → IsAnchoredOn (function_kind r) side (found_of s.sets) → IsAnchoredOn (function_kind q) side (found_of s.sets)
same_anchor q r side s e = subst (λ (k : OpKind). IsAnchoredOn (function_kind k) side (found_of s.sets)) (sym e)

anchored : (role : Role) (side : Side) (q : OpKind) (s : Found) → Plays role q → HasAnchor role side s → IsAnchoredOn (function_kind q) side (found_of s.sets)
anchored Mapping side q s e on = same_anchor q Map side s e tt
anchored Pairing side q s (inl e) on = same_anchor q Match side s e tt
anchored Pairing side q s (inr e) on = same_anchor q Cross side s e tt
anchored Grouping side q s e on = same_anchor q Reduce side s e tt
anchored Matching side q s e on = same_anchor q Match side s e tt
anchored CoGrouping on_left q s e on = same_anchor q CoGroup on_left s e on
anchored CoGrouping on_right q s e on = same_anchor q CoGroup on_right s e on

-- ---- conflicts

abbrev AreApartSets : FieldSet → FieldSet → Type 0
AreApartSets s t = (k : ℕ) → Has s k → Has t k → ⊥

pub no_conflict : (upper lower : Found) → AreApartSets (has_field upper.sets.reads) (has_field lower.sets.writes) → AreApartSets (has_field upper.sets.writes) (has_field lower.sets.reads)
    → AreApartSets (has_field upper.sets.writes) (has_field lower.sets.writes) → NoConflict (used_in upper) (used_in lower)
no_conflict upper lower read_write write_read write_write = record {
  read_write = λ k is. false_from_ne_true (has_field lower.sets.writes k) (read_write k is);
  write_read = λ k is. false_from_ne_true (has_field lower.sets.reads k) (write_read k is);
  write_write = λ k is. false_from_ne_true (has_field lower.sets.writes k) (write_write k is);
}

-- an upward exchange: its lower operator is the upper one of the downward exchange
turned_sets : (s t : FieldSet) → AreApartSets s t → AreApartSets t s
turned_sets s t h k a b = h k b a

pub no_conflict_up : (upper lower : Found) → AreApartSets (has_field upper.sets.reads) (has_field lower.sets.writes) → AreApartSets (has_field upper.sets.writes) (has_field lower.sets.reads)
    → AreApartSets (has_field upper.sets.writes) (has_field lower.sets.writes) → NoConflict (used_in lower) (used_in upper)
no_conflict_up upper lower read_write write_read write_write =
    no_conflict lower upper (turned_sets (has_field upper.sets.writes) (has_field lower.sets.reads) write_read) (turned_sets (has_field upper.sets.reads) (has_field lower.sets.writes) read_write)
    (turned_sets (has_field upper.sets.writes) (has_field lower.sets.writes) write_write)

module _ (p : ProgramData) (program : IsProgram p) (inputs : List Bag) (good : AreOpsOf p.fields p.functions p.ops (plan_ops p inputs)) where
  abbrev F : ℕ
  F = p.fields

  abbrev v : List WithFields
  v = p.functions

  abbrev O : PlanOps
  O = plan_ops p inputs

  -- the findings about both operators, by their roles
  pub both_found : (above below : Role) (side : Side) {f g : ℕ} {f_before f_now g_before g_now : PlanTree} {one two : Found} → Plays above (kind_at p.ops f) → Plays below (kind_at p.ops g)
      → HasAnchor above side one → HasAnchor below side two → IsFoundIn p f f_before f_now one → IsFoundIn p g g_before g_now two → NoConflict (used_in one) (used_in two)
      → AreFound F v p.ops O f f_before f_now g g_before g_now side (used_in one) (used_in two)
  both_found above below side {f = f} {g = g} {f_before = f_before} {f_now = f_now} {g_before = g_before} {g_now = g_now} {one = one} {two = two} kf kg af ag hf hg c = record {
    upper_sets = sets_found p program f f_before f_now one hf inputs side (plays-operator above (kind_at p.ops f) kf) (anchored above side (kind_at p.ops f) one kf af);
    lower_sets = sets_found p program g g_before g_now two hg inputs side (plays-operator below (kind_at p.ops g) kg) (anchored below side (kind_at p.ops g) two kg ag);
    no_conflict = c;
  }

  -- ---- the findings permit the exchange, by the shape; `one` is about the upper operator of the downward exchange

  maps_permitted : (f g : ℕ) (t : PlanTree) (one two : Found) → kind_at p.ops f ≡ Map → kind_at p.ops g ≡ Map
      → IsFoundIn p f (over f (over g t)) (over f t) one → IsFoundIn p g (over g t) (over g (over f t)) two → NoConflict (used_in one) (used_in two) → PermitsMaps F v p.ops O f g t
  maps_permitted f g t one two kf kg hf hg c = record {
    upper_kind = kf;
    lower_kind = kg;
    upper = used_in one;
    lower = used_in two;
    found = both_found Mapping Mapping on_left kf kg tt tt hf hg c;
  }

  left_permitted : (f g : ℕ) (t u : PlanTree) (one two : Found) → kind_at p.ops f ≡ Map → Plays Pairing (kind_at p.ops g)
      → IsFoundIn p f (over f (both g t u)) (over f t) one → IsFoundIn p g (both g t u) (both g (over f t) u) two → NoConflict (used_in one) (used_in two)
      → ((k : ℕ) → Has (has_field one.sets.touched) k → HasAttribute v p.ops u k → ⊥) → PermitsLeft F v p.ops O f g t u
  left_permitted f g t u one two kf kg hf hg c side = record {
    upper_kind = kf;
    lower_kind = kg;
    upper = used_in one;
    lower = used_in two;
    found = both_found Mapping Pairing on_left kf kg tt tt hf hg c;
    side = side;
  }

  right_permitted : (f g : ℕ) (t u : PlanTree) (one two : Found) → kind_at p.ops f ≡ Map → Plays Pairing (kind_at p.ops g)
      → IsFoundIn p f (over f (both g t u)) (over f u) one → IsFoundIn p g (both g t u) (both g t (over f u)) two → NoConflict (used_in one) (used_in two)
      → ((k : ℕ) → Has (has_field one.sets.touched) k → HasAttribute v p.ops t k → ⊥) → PermitsRight F v p.ops O f g t u
  right_permitted f g t u one two kf kg hf hg c side = record {
    upper_kind = kf;
    lower_kind = kg;
    upper = used_in one;
    lower = used_in two;
    found = both_found Mapping Pairing on_left kf kg tt tt hf hg c;
    side = side;
  }

  rotate_permitted : (h g : ℕ) (t u w : PlanTree) (one two : Found) → Plays Pairing (kind_at p.ops h) → Plays Pairing (kind_at p.ops g)
      → IsFoundIn p h (both h (both g t u) w) (both h u w) one → IsFoundIn p g (both g t u) (both g t (both h u w)) two → NoConflict (used_in one) (used_in two)
      → ((k : ℕ) → Has (has_field one.sets.touched) k → HasAttribute v p.ops t k → ⊥) → ((k : ℕ) → Has (has_field two.sets.touched) k → HasAttribute v p.ops w k → ⊥)
      → PermitsRotate F v p.ops O h g t u w
  rotate_permitted h g t u w one two kh kg fh fg c side other_side = record {
    upper_kind = kh;
    lower_kind = kg;
    upper = used_in one;
    lower = used_in two;
    found = both_found Pairing Pairing on_left kh kg tt tt fh fg c;
    side = side;
    other_side = other_side;
  }

  -- ---- at the root

  pub pair_at_root : (rule : Rule) → IsPairRule rule → (t : PlanTree) (upper lower : Found) → IsLegalRoot p rule t upper lower → AreSidesApart v p.ops t → AllowSame O t (exchanged_by rule t)
  pair_at_root MapMap i (over f (over g t)) upper lower x apart =
      let permits = maps_permitted f g t upper lower x.above x.below x.upper_in x.lower_in (no_conflict upper lower x.passes.0 x.passes.1.0 x.passes.1.1.0) in
      maps_same F v p.ops O good f g t permits
  pair_at_root MapLeft i (over f (both g t u)) upper lower x apart =
      let permits = left_permitted f g t u upper lower x.above x.below x.upper_in x.lower_in (no_conflict upper lower x.passes.0 x.passes.1.0 x.passes.1.1.0) x.passes.1.1.1.0 in
      left_same F v p.ops O good f g t u permits apart.0
  pair_at_root MapLeftUp i (both g (over f t) u) upper lower x apart =
      let permits = left_permitted f g t u lower upper x.below x.above (found_turned p f (over f t) (over f (both g t u)) lower x.lower_in) (found_turned p g (both g (over f t) u) (both g t u) upper x.upper_in)
      (no_conflict_up upper lower x.passes.0 x.passes.1.0 x.passes.1.1.0) x.passes.1.1.1.0 in
      turned_same O (over f (both g t u)) (both g (over f t) u) (left_same F v p.ops O good f g t u permits (λ k a b. apart.0 k (inr a) b))
  pair_at_root MapRight i (over f (both g t u)) upper lower x apart =
      let permits = right_permitted f g t u upper lower x.above x.below x.upper_in x.lower_in (no_conflict upper lower x.passes.0 x.passes.1.0 x.passes.1.1.0) x.passes.1.1.1.0 in
      right_same F v p.ops O good f g t u permits apart.0
  pair_at_root MapRightUp i (both g t (over f u)) upper lower x apart =
      let permits = right_permitted f g t u lower upper x.below x.above (found_turned p f (over f u) (over f (both g t u)) lower x.lower_in) (found_turned p g (both g t (over f u)) (both g t u) upper x.upper_in)
      (no_conflict_up upper lower x.passes.0 x.passes.1.0 x.passes.1.1.0) x.passes.1.1.1.0 in
      turned_same O (over f (both g t u)) (both g t (over f u)) (right_same F v p.ops O good f g t u permits (λ k a b. apart.0 k a (inr b)))
  pair_at_root Rotate i (both h (both g t u) w) upper lower x apart =
      let permits = rotate_permitted h g t u w upper lower x.above x.below x.upper_in x.lower_in (no_conflict upper lower x.passes.0 x.passes.1.0 x.passes.1.1.0) x.passes.1.1.1.0 x.passes.1.1.1.1.0 in
      let outer = λ (k : ℕ) (a : HasAttribute v p.ops t k) (b : HasAttribute v p.ops w k). apart.0 k (inr (inl a)) b in
      let inner = λ (k : ℕ) (a : HasAttribute v p.ops u k) (b : HasAttribute v p.ops w k). apart.0 k (inr (inr a)) b in
      rotate_same F v p.ops O good h g t u w permits apart.1.0 outer inner
  pair_at_root RotateUp i (both g t (both h u w)) upper lower x apart =
      let permits = rotate_permitted h g t u w lower upper x.below x.above (found_turned p h (both h u w) (both h (both g t u) w) lower x.lower_in) (found_turned p g (both g t (both h u w)) (both g t u) upper x.upper_in)
      (no_conflict_up upper lower x.passes.0 x.passes.1.0 x.passes.1.1.0) x.passes.1.1.1.0 x.passes.1.1.1.1.0 in
      let first = λ (k : ℕ) (a : HasAttribute v p.ops t k) (b : HasAttribute v p.ops u k). apart.0 k a (inr (inl b)) in
      let outer = λ (k : ℕ) (a : HasAttribute v p.ops t k) (b : HasAttribute v p.ops w k). apart.0 k a (inr (inr b)) in
      turned_same O (both h (both g t u) w) (both g t (both h u w)) (rotate_same F v p.ops O good h g t u w permits first outer apart.2.0)
  pair_at_root MapMap i t upper lower x apart = absurd x.shape
  pair_at_root MapLeft i t upper lower x apart = absurd x.shape
  pair_at_root MapLeftUp i t upper lower x apart = absurd x.shape
  pair_at_root MapRight i t upper lower x apart = absurd x.shape
  pair_at_root MapRightUp i t upper lower x apart = absurd x.shape
  pair_at_root Rotate i t upper lower x apart = absurd x.shape
  pair_at_root RotateUp i t upper lower x apart = absurd x.shape
  pair_at_root rule i t upper lower x apart = absurd i

-- at any place of a plan
pub legal-KeepAnswers : (p : ProgramData) → IsProgram p → (plan : PlanTree) → IsPlanOf p.functions p.ops plan → (at : ℕ) (rule : Rule) → IsPairRule rule → IsLegal p plan at rule → KeepAnswers p plan (swapped rule at plan)
legal-KeepAnswers p program plan of_program at rule pair legal =
    placed-KeepAnswers p program plan of_program at rule legal (λ inputs good t upper lower x apart. pair_at_root p program inputs good rule pair t upper lower x apart)
