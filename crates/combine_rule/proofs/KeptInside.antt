-- The fields of each Partition into a Reduce are among its keys: legal shipping ensures it, and combining a Reduce
-- preserves it.
use Rattle.std.proofs.Common.{◌≡◌, ◌≢◌, ◌<◌, ◌==◌, ◌||◌, ℕ, Bool, true, false, inl, inr, if◌then◌else◌, List, [], ◌∷◌, ◌++◌, Some, length, get_or, slice_get, refl, sym, ap, subst, ◌∙◌}
use Rattle.std.specs.List.{AllByRecursion}
use Rattle.std.proofs.lemmas.Bool.{both_ways, eqb-true, eq-eqb, or_parts, or_left}
use Rattle.std.proofs.lemmas.Bool.Decides.{eqb_tells}
use Rattle.std.proofs.lemmas.Option.{same_Some}
use Rattle.pact_record.specs.Keys.{is_listed}
use Rattle.plan_trees.specs.declared.physicals.Ship.{Ship}
use Rattle.plan_trees.specs.declared.physicals.Ship.TheVariants.{Forward, Partition}
use Rattle.plan_trees.specs.Physicals.{PhysicalData, ship_of}
use Rattle.plan_trees.specs.Plans.{PlanTree, leaf, over, both, has, root_of}
use Rattle.plan_trees.proofs.EverySubtree.{AllBelow}
use Rattle.tac_syntax.specs.declared.declarations.OpKind.TheVariants.{Reduce}
use Rattle.pact_operators.specs.declared.operators.Op.{Op}
use Rattle.pact_operators.specs.PlanOps.{kind_in, left_keys_in}
use Rattle.pact_operators.specs.Programs.{ProgramData}
use Rattle.ship_strategy.specs.Facts.{NodeFacts, Facts}
use Rattle.ship_strategy.specs.PlanFacts.{facts_at}
use Rattle.ship_strategy.specs.Ships.{AllowsOver, IsLegal, placement, edge_placement, is_broadcast}
use Rattle.plan_trees.specs.Inserted.{wrapped, inserted, inserted_above}
use Rattle.plan_trees.proofs.InsertedPlaces.{core, inserted-core, root-inserted, wrapped-so}
use Rattle.pact_operators.specs.Insertions.{calling}
use Rattle.pact_operators.proofs.OneMore.{calling-at, calling-other, slice_get-other}
use Rattle.combine_rule.proofs.CombinedPrograms.{fed_forward, ship_kept, other_ships}
use Rattle.combine_rule.proofs.CombinedTheorem.{within_keys}

-- this property for one edge
abbrev pub HasInside : List Op → List Ship → PlanTree → Type 0
HasInside ops ships (leaf n) = Unit {0}
HasInside ops ships (over n t) = (op : Op) → slice_get ops n ≡ Some op → op.kind ≡ Reduce → (fields : List ℕ) → get_or ships (root_of t) Forward ≡ Partition fields → AllByRecursion (λ k. is_listed op.left_keys k ≡ true) fields
HasInside ops ships (both n t u) = Unit {0}

pub legal_inside : (p : ProgramData) (q : PhysicalData) (f : Facts) (t : PlanTree) → IsLegal f q t → AllBelow (λ s. f (root_of s) ≡ facts_at p s) t
    → AllBelow (HasInside p.ops q.ships) t
legal_inside p q f (leaf n) h facts = tt
legal_inside p q f (over n t) h facts = (
  λ op e k fields g.
      let allowed : AllowsOver (facts_at p (over n t)) (ship_of q t) (placement f q t) = subst (λ (x : NodeFacts). AllowsOver x (ship_of q t) (placement f q t)) facts.0 h.0 in
      let kind : (facts_at p (over n t)).kind ≡ Reduce = ap kind_in e ∙ k in
      let r = within_keys (facts_at p (over n t)).kind (facts_at p (over n t)).left_keys fields (is_broadcast (ship_of q t)) (edge_placement (ship_of q t) (placement f q t)) kind
      (ap (λ (x : Ship). edge_placement x (placement f q t)) g) allowed in
      subst (λ (ks : List ℕ). AllByRecursion (λ j. is_listed ks j ≡ true) fields) (ap left_keys_in e) r,
  legal_inside p q f t h.1 facts.1,
)
legal_inside p q f (both n t u) h facts = (tt, legal_inside p q f t h.1 facts.1, legal_inside p q f u h.2 facts.2)

module _ (ops : List Op) (q : PhysicalData) (below at function : ℕ) (op : Op) (own : Op) (found : slice_get ops at ≡ Some op)
    (apart : length ops ≢ below) (below_in : below < length q.ships) (new_in : length ops < length q.ships) where
  abbrev new : ℕ
  new = length ops

  abbrev others : List Op
  others = calling at function (ops ++ own ∷ [])

  abbrev ships : List Ship
  ships = (inserted_above below new q).ships

  -- the operator that had this number before
  before : (n : ℕ) (x : Op) → n ≢ new → slice_get others n ≡ Some x → (y : Op) × (slice_get ops n ≡ Some y) × (x.kind ≡ y.kind) × (x.left_keys ≡ y.left_keys)
  before n x ne e = elim (eqb_tells n at) as (λ _. (y : Op) × (slice_get ops n ≡ Some y) × (x.kind ≡ y.kind) × (x.left_keys ≡ y.left_keys)) [
    | inl z ↦
        let there = ap (slice_get ops) z.1 ∙ found in
        let now = calling-at at function (ops ++ own ∷ []) op (slice_get-other ops own at (λ w. ne (z.1 ∙ w)) ∙ found) in
        let same = same_Some x (record op { function = function }) (sym e ∙ ap (slice_get others) z.1 ∙ now) in
        (op, there, ap (λ (o : Op). o.kind) same, ap (λ (o : Op). o.left_keys) same)
    | inr z ↦ (x, sym (slice_get-other ops own n ne) ∙ sym (calling-other at function (ops ++ own ∷ []) n z.1) ∙ e, refl, refl)
  ]

  no_partition : (fields : List ℕ) → Forward ≡ Partition fields → ⊥
  no_partition fields e = cc

  inside_wrapped : (n : ℕ) (t : PlanTree) → root_of t ≡ n → AllBelow (HasInside others ships) t → AllBelow (HasInside others ships) (wrapped below new n t)
  inside_wrapped n t root h = by (below == n) refl where
    by : (b : Bool) → (below == n) ≡ b → AllBelow (HasInside others ships) (if b then over new t else t)
    by true e = ((λ x i k fields g. absurd (no_partition fields (sym (fed_forward q below new apart below_in new_in) ∙ ap (λ (m : ℕ). get_or ships m Forward) (eqb-true below n e ∙ sym root) ∙ g))), h)
    by false e = h

  not_new : (n : ℕ) (t : PlanTree) → has new t ≡ false → has n t ≡ true → n ≢ new
  not_new n t h g e = both_ways (has new t) h (subst (λ (k : ℕ). has k t ≡ true) e g)

  root_there : (t : PlanTree) → has (root_of t) t ≡ true
  root_there (leaf n) = eq-eqb n n refl
  root_there (over n t) = or_left (n == n) (has n t) (eq-eqb n n refl)
  root_there (both n t v) = or_left (n == n) (has n t || has n v) (eq-eqb n n refl)

  -- the ship of the edge is the one that it had before
  ship_before : (t : PlanTree) → has new t ≡ false → get_or ships (root_of (inserted below new t)) Forward ≡ get_or q.ships (root_of t) Forward
  ship_before t absent = elim (eqb_tells (root_of t) below) as (λ _. get_or ships (root_of (inserted below new t)) Forward ≡ get_or q.ships (root_of t) Forward) [
    | inl z ↦
        ap (λ (x : PlanTree). get_or ships (root_of x) Forward) (inserted-core below new t ∙ wrapped-so below new (root_of t) (core below new t) z.1)
        ∙ ship_kept q below new apart below_in new_in ∙ ap (λ (m : ℕ). get_or q.ships m Forward) (sym z.1)
    | inr z ↦
        ap (λ (m : ℕ). get_or ships m Forward) (root-inserted below new t z.1) ∙ other_ships q below new apart below_in new_in (root_of t) z.1 (not_new (root_of t) t absent (root_there t))
  ]

  pub inside_kept : (t : PlanTree) → has new t ≡ false → AllBelow (HasInside ops q.ships) t → AllBelow (HasInside others ships) (inserted below new t)
  inside_kept (leaf n) absent h = inside_wrapped n (leaf n) refl tt
  inside_kept (over n t) absent h =
      let parts = or_parts (new == n) (has new t) absent in
      inside_wrapped n (over n (inserted below new t)) refl (
        λ x i k fields g.
            let b = before n x (not_new n (over n t) absent (root_there (over n t))) i in
            subst (λ (ks : List ℕ). AllByRecursion (λ j. is_listed ks j ≡ true) fields) (sym b.3) (h.0 b.0 b.1 (sym b.2 ∙ k) fields (sym (ship_before t parts.1) ∙ g)),
        inside_kept t parts.1 h.1,
      )
  inside_kept (both n t u) absent h =
      let parts = or_parts (new == n) (has new t || has new u) absent in
      let sides = or_parts (has new t) (has new u) parts.1 in
      inside_wrapped n (both n (inserted below new t) (inserted below new u)) refl (tt, inside_kept t sides.0 h.1, inside_kept u sides.1 h.2)
