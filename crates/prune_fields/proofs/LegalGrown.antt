-- Legal shipping stays legal when Maps are inserted on edges that aren't Forward.
use Rattle.std.proofs.Common.{◌≡◌, ◌≢◌, ◌∙◌, ◌<◌, ℕ, false, Option, Some, None, List, [], length, get_or, refl, sym, ap, subst}
use Rattle.std.proofs.lemmas.Option.{slice_get_within}
use Rattle.tac_syntax.specs.declared.declarations.OpKind.{OpKind}
use Rattle.tac_syntax.specs.declared.declarations.OpKind.TheVariants.{Source, Map, Reduce, Match, Cross, CoGroup}
use Rattle.tac_syntax.specs.Contexts.{FieldSet}
use Rattle.tac_flow.specs.Known.{no_fields}
use Rattle.tac_flow.specs.Results.{sets_of}
use Rattle.plan_trees.specs.declared.physicals.Ship.{Ship}
use Rattle.plan_trees.specs.declared.physicals.Ship.TheVariants.{Forward, Partition, Broadcast}
use Rattle.plan_trees.specs.Physicals.{PhysicalData, ship_of}
use Rattle.plan_trees.specs.Plans.{PlanTree, leaf, over, both, root_of}
use Rattle.plan_trees.proofs.EverySubtree.{AllBelow}
use Rattle.pact_operators.specs.PlanOps.{body_at, kind_at, kind_in, left_keys_in, right_keys_in}
use Rattle.pact_operators.specs.Programs.{HasArity, IsPlanOf, IsProgram, ProgramData}
use Rattle.pact_operators.specs.SoundOps.{function_kind}
use Rattle.pact_operators.proofs.SourceKinds.{no_source}
use Rattle.ship_strategy.specs.Facts.{Facts, NodeFacts}
use Rattle.ship_strategy.specs.PlanFacts.{attribute, facts_at, facts_for, facts_of, scope_at, sets_at, unless_source}
use Rattle.ship_strategy.specs.Ships.{AllowsBoth, IsLegal, IsLegalBoth, IsLegalOver, LegalShip, Placement, edge_placement, is_broadcast, placement, placement_both, placement_over}
use Rattle.ship_strategy.proofs.FactsBelow.{facts_below}
use Rattle.prune_fields.specs.Insertions.{Cuts, capped, cuts_from, grown, with_keeps}
use Rattle.prune_fields.proofs.KeptAttributes.{onto_attribute}
use Rattle.prune_fields.proofs.MovedShips.{AreMoved}
use Rattle.prune_fields.proofs.NeedsByEdge.{AreNeeds}
use Rattle.prune_fields.proofs.OneMoreKeep.{root-grown}
use Rattle.prune_fields.proofs.MoreOps.{new_at, same_body, same_kind, same_op}

-- ---- edges that aren't Forward

other_edge : (ship : Ship) (a b : Placement) → ship ≢ Forward → edge_placement ship a ≡ edge_placement ship b
other_edge Forward a b h = absurd (h refl)
other_edge (Partition keys) a b h = refl
other_edge Broadcast a b h = refl

-- ---- facts about the operators that were there before

module _ (p : ProgramData) (program : IsProgram p) (tree : PlanTree) (needs : ℕ → FieldSet) (ns : List ℕ) where
  abbrev Q : ProgramData
  Q = with_keeps p tree needs ns

  abbrev Cut : Cuts
  Cut = cuts_from (length p.ops) ns

  same_found : (n : ℕ) (l r : FieldSet) → n < length p.ops → (kind_at p.ops n ≡ Source → ⊥) → sets_at Q n l r ≡ sets_at p n l r
  same_found n l r lt operator =
      let kind = same_kind p program [] tree needs ns n lt in
      let op = same_op p program [] tree needs ns n lt in
      let body = same_body p program [] tree needs ns n lt operator in
      λ i. unless_source (kind i)
      (sets_of (record {
        kind = function_kind (kind i);
        fields = p.fields;
        left = l;
        right = r;
        left_keys = left_keys_in (op i);
        right_keys = right_keys_in (op i);
      }) (body i))

  same_sets : (n : ℕ) (l r : FieldSet) (kind : OpKind) → n < length p.ops → kind_at p.ops n ≡ kind → sets_at Q n l r ≡ sets_at p n l r
  same_sets n l r Source lt e =
      ap (λ (k : OpKind). unless_source k (sets_of (scope_at Q n l r) (body_at Q n))) (same_kind p program [] tree needs ns n lt ∙ e)
      ∙ sym (ap (λ (k : OpKind). unless_source k (sets_of (scope_at p n l r) (body_at p n))) e)
  same_sets n l r Map lt e = same_found n l r lt (λ s. no_source Map refl (sym e ∙ s))
  same_sets n l r Reduce lt e = same_found n l r lt (λ s. no_source Reduce refl (sym e ∙ s))
  same_sets n l r Match lt e = same_found n l r lt (λ s. no_source Match refl (sym e ∙ s))
  same_sets n l r Cross lt e = same_found n l r lt (λ s. no_source Cross refl (sym e ∙ s))
  same_sets n l r CoGroup lt e = same_found n l r lt (λ s. no_source CoGroup refl (sym e ∙ s))

  same_facts : (n : ℕ) (l r : FieldSet) → n < length p.ops → facts_for Q n l r ≡ facts_for p n l r
  same_facts n l r lt =
      let kind = same_kind p program [] tree needs ns n lt in
      let op = same_op p program [] tree needs ns n lt in
      let sets = same_sets n l r (kind_at p.ops n) lt refl in
      λ i. record {
        kind = kind i;
        left_keys = left_keys_in (op i);
        right_keys = right_keys_in (op i);
        left = l;
        right = r;
        writes = (sets i).writes;
        anchor_left = (sets i).anchor_left;
        anchor_right = (sets i).anchor_right;
      }

  -- ---- plans

  abbrev Onto : PlanTree → PlanTree
  Onto t = capped (Cut (root_of t)) (grown Cut t)

  facts_over : (n : ℕ) (t : PlanTree) → HasArity p.ops (over n t) → AreNeeds p needs (over n t) → facts_at Q (over n (Onto t)) ≡ facts_at p (over n t)
  facts_over n t a d =
      ap (λ (l : FieldSet). facts_for Q n l no_fields) (onto_attribute p program tree needs ns (over n t) t a.1 d.1 d.0)
      ∙ same_facts n (attribute p t) no_fields (slice_get_within p.ops n a.0.0 a.0.1)

  facts_both : (n : ℕ) (t u : PlanTree) → HasArity p.ops (both n t u) → AreNeeds p needs (both n t u)
      → facts_at Q (both n (Onto t) (Onto u)) ≡ facts_at p (both n t u)
  facts_both n t u a d =
      (λ i. facts_for Q n (onto_attribute p program tree needs ns (both n t u) t a.1 d.2 d.0 i)
      (onto_attribute p program tree needs ns (both n t u) u a.2 d.3 d.1 i))
      ∙ same_facts n (attribute p t) (attribute p u) (slice_get_within p.ops n a.0.0 a.0.1)

  module _ (f g : Facts) (x y : PhysicalData) (moved : AreMoved Cut (length p.ops) x.ships y.ships)
      (shipped : (n m : ℕ) → Cut n ≡ Some m → get_or x.ships n Forward ≢ Forward) where
    abbrev Known : PlanTree → Type 0
    Known s = f (root_of s) ≡ facts_at p s

    abbrev KnownNow : PlanTree → Type 0
    KnownNow s = g (root_of s) ≡ facts_at Q s

    root_small : (t : PlanTree) → HasArity p.ops t → root_of t < length p.ops
    root_small (leaf n) a = slice_get_within p.ops n a.0 a.1
    root_small (over n t) a = slice_get_within p.ops n a.0.0 a.0.1
    root_small (both n t u) a = slice_get_within p.ops n a.0.0 a.0.1

    onto_ship : (t : PlanTree) → HasArity p.ops t → (c : Option ℕ) → Cut (root_of t) ≡ c → ship_of y (capped c (grown Cut t)) ≡ ship_of x t
    onto_ship t a None e = ap (λ (n : ℕ). get_or y.ships n Forward) (root-grown Cut t) ∙ moved.stays (root_of t) (root_small t a) e
    onto_ship t a (Some m) e = moved.on (root_of t) m e

    onto_edge : (t : PlanTree) → HasArity p.ops t → placement g y (grown Cut t) ≡ placement f x t → (c : Option ℕ) → Cut (root_of t) ≡ c
        → edge_placement (ship_of y (capped c (grown Cut t))) (placement g y (capped c (grown Cut t))) ≡ edge_placement (ship_of x t)
        (placement f x t)
    onto_edge t a same None e = λ i. edge_placement (onto_ship t a None e i) (same i)
    onto_edge t a same (Some m) e =
        ap (λ (s : Ship). edge_placement s (placement g y (over m (grown Cut t)))) (onto_ship t a (Some m) e)
        ∙ other_edge (ship_of x t) (placement g y (over m (grown Cut t))) (placement f x t) (shipped (root_of t) m e)

    below_onto : (t : PlanTree) (c : Option ℕ) → AllBelow KnownNow (capped c (grown Cut t)) → AllBelow KnownNow (grown Cut t)
    below_onto t None h = h
    below_onto t (Some m) h = h.1

    onto_legal : (t : PlanTree) (c : Option ℕ) → Cut (root_of t) ≡ c → AllBelow KnownNow (capped c (grown Cut t)) → IsLegal g y (grown Cut t)
        → IsLegal g y (capped c (grown Cut t))
    onto_legal t None e known h = h
    onto_legal t (Some m) e known h =
        let a = (new_at p program [] tree needs ns (root_of t) m e).1 in
        let kind : (g m).kind ≡ Map = ap (λ (z : NodeFacts). z.kind) known.0 ∙ ap kind_in a.op in
        let forward : is_broadcast (ship_of y (grown Cut t)) ≡ false =
        ap (λ (n : ℕ). is_broadcast (get_or y.ships n Forward)) (root-grown Cut t) ∙ ap is_broadcast (moved.fed (root_of t) m e) in (
          subst (λ (k : OpKind). IsLegalOver k (g m).left_keys (is_broadcast (ship_of y (grown Cut t)))
              (edge_placement (ship_of y (grown Cut t)) (placement g y (grown Cut t)))) (sym kind) forward,
          h,
        )

    pub record IsCarried (t : PlanTree) : Type 0 where
      pub place : placement g y (grown Cut t) ≡ placement f x t
      pub legal : IsLegal g y (grown Cut t)

    pub carried : (t : PlanTree) → HasArity p.ops t → AreNeeds p needs t → AllBelow Known t → AllBelow KnownNow (grown Cut t) → IsLegal f x t
        → IsCarried t
    carried (leaf n) a d known now h = record { place = refl; legal = tt }
    carried (over n t) a d known now h =
        let c = Cut (root_of t) in
        let below = carried t a.1 d.1 known.1 (below_onto t c now.1) h.1 in
        let fact : g n ≡ f n = now.0 ∙ facts_over n t a d ∙ sym known.0 in
        let ship = onto_ship t a.1 c refl in
        let edge = onto_edge t a.1 below.place c refl in
        record {
          place = λ i. placement_over (fact i).kind (fact i).writes (edge i);
          legal = (
            subst (λ (z : NodeFacts). IsLegalOver z.kind z.left_keys (is_broadcast (ship_of y (Onto t)))
                (edge_placement (ship_of y (Onto t)) (placement g y (Onto t)))) (sym fact)
                (subst (λ (s : Ship). IsLegalOver (f n).kind (f n).left_keys (is_broadcast s)
                (edge_placement (ship_of y (Onto t)) (placement g y (Onto t)))) (sym ship)
                (subst (λ (q : Placement). IsLegalOver (f n).kind (f n).left_keys (is_broadcast (ship_of x t)) q) (sym edge) h.0)),
            onto_legal t c refl now.1 below.legal,
          );
        }
    carried (both n t u) a d known now h =
        let c = Cut (root_of t) in
        let e = Cut (root_of u) in
        let left = carried t a.1 d.2 known.1 (below_onto t c now.1) h.1 in
        let right = carried u a.2 d.3 known.2 (below_onto u e now.2) h.2 in
        let fact : g n ≡ f n = now.0 ∙ facts_both n t u a d ∙ sym known.0 in
        let left_ship = onto_ship t a.1 c refl in
        let right_ship = onto_ship u a.2 e refl in
        let left_edge = onto_edge t a.1 left.place c refl in
        let right_edge = onto_edge u a.2 right.place e refl in
        record {
          place = λ i. placement_both (fact i).kind (fact i) (is_broadcast (left_ship i)) (is_broadcast (right_ship i)) (left_edge i) (right_edge i);
          legal = (
            subst (λ (z : NodeFacts). AllowsBoth z (ship_of y (Onto t)) (ship_of y (Onto u)) (placement g y (Onto t)) (placement g y (Onto u)))
                (sym fact)
                (subst (λ (s : Ship). IsLegalBoth (f n).kind (f n).left_keys (f n).right_keys (is_broadcast s) (is_broadcast (ship_of y (Onto u)))
                (edge_placement (ship_of y (Onto t)) (placement g y (Onto t))) (edge_placement (ship_of y (Onto u)) (placement g y (Onto u))))
                (sym left_ship)
                (subst (λ (s : Ship). IsLegalBoth (f n).kind (f n).left_keys (f n).right_keys (is_broadcast (ship_of x t)) (is_broadcast s)
                (edge_placement (ship_of y (Onto t)) (placement g y (Onto t))) (edge_placement (ship_of y (Onto u)) (placement g y (Onto u))))
                (sym right_ship)
                (subst (λ (q : Placement). IsLegalBoth (f n).kind (f n).left_keys (f n).right_keys (is_broadcast (ship_of x t))
                (is_broadcast (ship_of x u)) q (edge_placement (ship_of y (Onto u)) (placement g y (Onto u)))) (sym left_edge)
                (subst (λ (q : Placement). IsLegalBoth (f n).kind (f n).left_keys (f n).right_keys (is_broadcast (ship_of x t))
                (is_broadcast (ship_of x u)) (edge_placement (ship_of x t) (placement f x t)) q) (sym right_edge) h.0)))),
            onto_legal t c refl now.1 left.legal,
            onto_legal u e refl now.2 right.legal,
          );
        }

  -- ---- a whole physical plan

  pub stays_legal : (x y : PhysicalData) → y.tree ≡ grown Cut x.tree → tree ≡ x.tree → IsPlanOf p.functions p.ops x.tree → AreNeeds p needs x.tree
      → IsPlanOf Q.functions Q.ops (grown Cut x.tree) → AreMoved Cut (length p.ops) x.ships y.ships
      → ((n m : ℕ) → Cut n ≡ Some m → get_or x.ships n Forward ≢ Forward) → LegalShip (facts_of p x.tree) x
      → LegalShip (facts_of Q (grown Cut x.tree)) y
  stays_legal x y e same plan d now moved shipped h =
      subst (IsLegal (facts_of Q (grown Cut x.tree)) y) (sym e)
      (carried (facts_of p x.tree) (facts_of Q (grown Cut x.tree)) x y moved shipped x.tree plan.arity d (facts_below p x.tree plan.different)
      (facts_below Q (grown Cut x.tree) now.different) h).legal
