-- Whether the edge of a number is cut, as the code finds it.
use Rattle.std.proofs.Common.{◌≡◌, ◌≢◌, ◌∙◌, ◌<◌, ◌+◌, ◌↔◌, ◌&&◌, not, inl, inr, ℕ, Bool, true, false, IsTrue, if◌then◌else◌, Some, None, get_or, refl, sym, ap, arith}
use Rattle.std.proofs.lemmas.Bool.{both_ways, cases_Bool, cases_lt}
use Rattle.std.proofs.lemmas.Option.{same_Some}
use Rattle.pact_record.specs.FieldSets.{IsSubset, has_field}
use Rattle.pact_record.proofs.Members.{same_tests}
use Rattle.tac_syntax.specs.Contexts.{FieldSet}
use Rattle.plan_trees.specs.declared.physicals.Ship.{Ship}
use Rattle.plan_trees.specs.declared.physicals.Ship.TheVariants.{Forward, Partition, Broadcast}
use Rattle.plan_trees.specs.Physicals.{PhysicalData, has_edge, ship_at}
use Rattle.plan_trees.specs.Plans.{PlanTree, subtree_of}
use Rattle.pact_operators.specs.Programs.{HasAttribute, IsProgram, ProgramData}
use Rattle.ship_strategy.specs.PlanFacts.{attribute}
use Rattle.prune_fields.specs.KeepFunctions.{members}
use Rattle.prune_fields.specs.Needs.{need}
use Rattle.prune_fields.specs.PrunedPlans.{has_spare, is_cut, is_forward}
use Rattle.prune_fields.proofs.KeptAttributes.{attribute_below, attribute_has}
use Rattle.prune_fields.proofs.Members.{any-member, members-any, members-in}

-- ---- attributes that aren't needed

module _ (p : ProgramData) (program : IsProgram p) (tree : PlanTree) (at needed attributes : ℕ) (sub : Bool)
    (needs : has_field needed ≡ need p tree at)
    (are : (k : ℕ) → IsTrue (has_field attributes k) ↔ HasAttribute p.functions p.ops (subtree_of at tree) k)
    (is_sub : IsTrue sub ↔ IsSubset attributes needed) where
  abbrev own : FieldSet
  own = attribute p (subtree_of at tree)

  abbrev unneeded : FieldSet
  unneeded k = not (need p tree at k)

  all_needed : has_spare p tree at ≡ false → IsSubset attributes needed
  all_needed none k h = elim (cases_Bool (need p tree at k)) as (λ _. has_field needed k ≡ true) [
    | inl t ↦ ap (λ (s : FieldSet). s k) needs ∙ t
    | inr f ↦
        let is : own k ≡ true = (attribute_has p (subtree_of at tree) k).1 ((are k).0 h) in
        absurd (both_ways (has_spare p tree at) none (members-any own unneeded 0 p.fields k (omega arith) (small k is) is (ap not f)))
  ]
    where
      small : (k : ℕ) → own k ≡ true → k < 0 + p.fields
      small k is =
          elim (cases_lt k p.fields) as (λ _. k < 0 + p.fields) [
            | inl lt ↦ omega (arith, lt)
            | inr past ↦ absurd (both_ways (own k) (attribute_below p program (subtree_of at tree) k past) is)
          ]

  some_unneeded : has_spare p tree at ≡ true → IsSubset attributes needed → ⊥
  some_unneeded some all =
      let w = any-member unneeded (members p.fields own) own (members-in own 0 p.fields) some in
      let is : need p tree at w.0 ≡ true =
      sym (ap (λ (s : FieldSet). s w.0) needs) ∙ all w.0 ((are w.0).1 ((attribute_has p (subtree_of at tree) w.0).0 w.1)) in
      both_ways (unneeded w.0) (ap not is) w.2

  pub spare_is : not sub ≡ has_spare p tree at
  spare_is =
      same_tests (not sub) (has_spare p tree at)
      (λ e. elim (cases_Bool (has_spare p tree at)) as (λ _. has_spare p tree at ≡ true) [
        | inl t ↦ t
        | inr f ↦ absurd (both_ways (not sub) (ap not (is_sub.1 (all_needed f))) e)
      ])
      (λ e. elim (cases_Bool sub) as (λ _. not sub ≡ true) [ inl t ↦ absurd (some_unneeded e (is_sub.0 t)) | inr f ↦ ap not f ])

-- ---- edges

module _ (x : PhysicalData) (at : ℕ) where
  an_edge : (ship : Ship) → ship_at x at ≡ Some ship → (has_edge at x.tree ≡ true) × (get_or x.ships at Forward ≡ ship)
  an_edge ship e = by (has_edge at x.tree) e
    where
      by : (b : Bool) → (if b then Some (get_or x.ships at Forward) else None) ≡ Some ship → (b ≡ true) × (get_or x.ships at Forward ≡ ship)
      by true e = (refl, same_Some (get_or x.ships at Forward) ship e)
      by false e = absurd cc

  -- it isn't the root, and doesn't ship Forward
  abbrev pub shipped : Bool
  shipped = has_edge at x.tree && not (is_forward (get_or x.ships at Forward))

  pub shipped_by : (ship : Ship) → ship_at x at ≡ Some ship → ship ≢ Forward → true ≡ shipped
  shipped_by ship e other = let r = an_edge ship e in sym ((λ i. (r.0 i) && not (is_forward (r.1 i))) ∙ by ship other)
    where
      by : (ship : Ship) → ship ≢ Forward → (true && not (is_forward ship)) ≡ true
      by Forward other = absurd (other refl)
      by (Partition keys) other = refl
      by Broadcast other = refl

  in_turn : (a b c : Bool) → ((a && b) && c) ≡ (a && (b && c))
  in_turn true b c = refl
  in_turn false b c = refl

  and_false : (a : Bool) → false ≡ (a && false)
  and_false true = refl
  and_false false = refl

  module _ (p : ProgramData) where
    abbrev spare : Bool
    spare = has_spare p x.tree at

    cut_is : (shipped && spare) ≡ is_cut p x at
    cut_is = in_turn (has_edge at x.tree) (not (is_forward (get_or x.ships at Forward))) spare

    pub not_shipped : false ≡ shipped → false ≡ is_cut p x at
    not_shipped e = (λ i. (e i) && spare) ∙ cut_is

    pub none_spare : false ≡ spare → false ≡ is_cut p x at
    none_spare e = and_false shipped ∙ (λ i. shipped && (e i)) ∙ cut_is

    pub both_cut : true ≡ shipped → true ≡ spare → true ≡ is_cut p x at
    both_cut e f = (λ i. (e i) && (f i)) ∙ cut_is
