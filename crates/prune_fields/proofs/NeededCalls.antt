-- If the inputs of a program's operator agree on the fields that it wants, its calls agree on the needed fields of its
-- outputs.
use Rattle.std.proofs.Common.{◌≡◌, ◌∙◌, ◌⊎◌, inl, inr, ℕ, Bool, true, false, Option, Some, None, List, slice_get, refl, sym, ap, subst}
use Rattle.std.specs.List.{AllByRecursion}
use Rattle.std.proofs.lemmas.Bool.{both_ways, cases_Bool, cases_lt, lt-ltb}
use Rattle.tac_syntax.specs.declared.contexts.Side.{Side}
use Rattle.tac_syntax.specs.declared.contexts.Side.TheVariants.{Left as on_left, Right as on_right}
use Rattle.tac_syntax.specs.declared.declarations.OpKind.TheVariants.{Source}
use Rattle.tac_syntax.specs.declared.functions.Kind.{Kind}
use Rattle.tac_syntax.specs.declared.functions.Kind.TheVariants.{Map, Match, Cross, Reduce, CoGroup}
use Rattle.tac_syntax.specs.Code.{Code}
use Rattle.tac_syntax.specs.Call.{CallInput, Out}
use Rattle.tac_syntax.specs.Contexts.{FieldSet, Has, IsBelow}
use Rattle.tac_syntax.specs.Forms.{HasFormAlone}
use Rattle.tac_syntax.specs.Valid.{WithFields}
use Rattle.tac_syntax.specs.WellFormed.{IsWellFormed}
use Rattle.tac_syntax.proofs.WellFormed.{valid_is_well_formed}
use Rattle.tac_flow.specs.Known.{fields_below}
use Rattle.tac_flow.specs.Results.{FoundSets, Gathered, IsAlone, IsAnchoredOn, by_anchors, found_by, notes_of, sets_of, summary}
use Rattle.tac_flow.specs.Steps.{Scope}
use Rattle.tac_flow.specs.Views.{ports_in}
use Rattle.tac_flow.proofs.FormOfCalls.{alone_of, form_of}
use Rattle.tac_flow.proofs.KeysRead.{left_keys_read, right_keys_read}
use Rattle.tac_flow.proofs.SmallScopes.{IsSmallScope}
use Rattle.pact_operators.specs.declared.operators.Op.{Op}
use Rattle.pact_operators.specs.Allowed.{Bag}
use Rattle.pact_operators.specs.PlanOps.{body_at, kind_at, kind_in, plan_ops}
use Rattle.pact_operators.specs.Programs.{IsProgram, ProgramData}
use Rattle.pact_operators.specs.SoundOps.{called, function_kind}
use Rattle.pact_operators.proofs.CalledFunctions.{IsCalled, called_at, called_kind, is_operator}
use Rattle.pact_operators.proofs.PlanContexts.{keys-below}
use Rattle.pact_operators.proofs.SoundPrograms.{all_called}
use Rattle.prune_fields.specs.Needs.{wanted}
use Rattle.ship_strategy.specs.PlanFacts.{scope_at, sets_at}
use Rattle.prune_fields.proofs.KeptForms.{kept_alone, kept_form}
use Rattle.ship_strategy.proofs.PlanSets.{operator_sets}

-- ---- sets

anchored_or_alone : (kind : Kind) (s : FoundSets) → ((side : Side) × IsAnchoredOn kind side s) ⊎ IsAlone kind s
anchored_or_alone Map s = inl (on_left, tt)
anchored_or_alone Match s = inl (on_left, tt)
anchored_or_alone Cross s = inl (on_left, tt)
anchored_or_alone Reduce s = inl (on_left, tt)
anchored_or_alone CoGroup s = elim (cases_Bool s.anchor_left) as (λ _. ((side : Side) × IsAnchoredOn CoGroup side s) ⊎ IsAlone CoGroup s) [
  | inl l ↦ inl (on_left, l)
  | inr l ↦ elim (cases_Bool s.anchor_right) as (λ _. ((side : Side) × IsAnchoredOn CoGroup side s) ⊎ IsAlone CoGroup s) [
    | inl r ↦ inl (on_right, r)
    | inr r ↦ inr (record { groups = refl; left = l; right = r })
  ]
]

-- a call that is anchored on neither side writes all fields
alone_by : (l r : Bool) (c : Scope) (g : Gathered) → (by_anchors l r c g).anchor_left ≡ false → (by_anchors l r c g).anchor_right ≡ false
    → (by_anchors l r c g).writes ≡ fields_below c.fields
alone_by false false c g e f = refl
alone_by true r c g e f = absurd (both_ways true e refl)
alone_by false true c g e f = absurd (both_ways true f refl)

alone_writes : (kind : Kind) (c : Scope) (g : Gathered) → IsAlone kind (found_by kind c g) → (found_by kind c g).writes ≡ fields_below c.fields
alone_writes Map c g h = let e = h.groups in cc
alone_writes Match c g h = let e = h.groups in cc
alone_writes Cross c g h = let e = h.groups in cc
alone_writes Reduce c g h = let e = h.groups in cc
alone_writes CoGroup c g h = alone_by g.all_left g.all_right c g h.left h.right

below_written : (fields : ℕ) (above writes : FieldSet) → IsBelow fields above → writes ≡ fields_below fields → (k : ℕ) → above k ≡ true
    → writes k ≡ true
below_written fields above writes below e k is = ap (λ (s : FieldSet). s k) e ∙ elim (cases_lt k fields) as (λ _. fields_below fields k ≡ true) [
  | inl p ↦ lt-ltb k fields p
  | inr p ↦ absurd (both_ways (above k) (below k p) is)
]

module _ (p : ProgramData) (program : IsProgram p) (n : ℕ) (operator : kind_at p.ops n ≡ Source → ⊥) (left right : FieldSet)
    (left_below : IsBelow p.fields left) (right_below : IsBelow p.fields right) where
  abbrev InScope : Scope
  InScope = scope_at p n left right

  abbrev Sets : FoundSets
  Sets = sets_at p n left right

  operator_function : (found : Option Op) → slice_get p.ops n ≡ found → (op : Op) × (v : WithFields) × IsCalled p n op v
  operator_function None e = absurd (operator (ap kind_in e))
  operator_function (Some op) e =
      let h = is_operator p program n op operator e in (op, h.called, called_at p program n op operator h.called e h.function)

  well_formed : IsWellFormed (function_kind (kind_at p.ops n)) p.fields 0 (body_at p n)
  well_formed =
      let r = operator_function (slice_get p.ops n) refl in
      let v = r.1 in
      let c = r.2 in
      subst (λ (k : Kind). IsWellFormed k p.fields 0 (body_at p n)) (called_kind p n r.0 v c)
      (subst (λ (m : ℕ). IsWellFormed v.function.kind m 0 (body_at p n)) c.fields
      (subst (λ (b : Code). IsWellFormed v.function.kind v.fields 0 b) c.body (valid_is_well_formed v.function v.fields c.valid)))

  small : IsSmallScope InScope
  small =
      let keys = keys-below p.fields p.functions p.ops n program.ops operator in
      record { left = left_below; right = right_below; left_keys = keys.0; right_keys = keys.1 }

  found_is : Sets ≡ sets_of InScope (body_at p n)
  found_is = operator_sets (kind_at p.ops n) (sets_of InScope (body_at p n)) operator

  pub left_keys_needed : AllByRecursion (Has Sets.reads) InScope.left_keys
  left_keys_needed =
      subst (λ (s : FoundSets). AllByRecursion (Has s.reads) InScope.left_keys) (sym found_is) (left_keys_read InScope (body_at p n) small)

  pub right_keys_needed : AllByRecursion (Has Sets.reads) InScope.right_keys
  right_keys_needed =
      subst (λ (s : FoundSets). AllByRecursion (Has s.reads) InScope.right_keys) (sym found_is) (right_keys_read InScope (body_at p n) small)

  -- the promises of the found sets
  abbrev Promises : FieldSet → FoundSets → Type 0
  Promises above s =
      HasFormAlone (function_kind (kind_at p.ops n)) p.fields (ports_in InScope) (wanted s.reads s.writes above) above (Out p.fields (body_at p n))

  found_calls : (above : FieldSet) → IsBelow p.fields above → Promises above (sets_of InScope (body_at p n))
  found_calls above below =
      let s = sets_of InScope (body_at p n) in
      elim (anchored_or_alone (function_kind (kind_at p.ops n)) s) as (λ _. Promises above s) [
        | inl on ↦
            kept_form (function_kind (kind_at p.ops n)) p.fields (ports_in InScope) s.reads s.writes above on.0 (Out p.fields (body_at p n))
            (form_of InScope (body_at p n) well_formed small on.0 on.1)
        | inr alone ↦
            kept_alone (function_kind (kind_at p.ops n)) p.fields (ports_in InScope) s.reads s.writes above (Out p.fields (body_at p n))
            (below_written p.fields above s.writes below
            (alone_writes (function_kind (kind_at p.ops n)) InScope (summary p.fields (notes_of InScope (body_at p n))) alone))
            (alone_of InScope (body_at p n) well_formed small alone)
      ]

  pub needed_calls : (inputs : List Bag) (above : FieldSet) → IsBelow p.fields above
      → HasFormAlone (function_kind (kind_at p.ops n)) p.fields (ports_in InScope) (wanted Sets.reads Sets.writes above) above
      (called (plan_ops p inputs) n)
  needed_calls inputs above below =
      subst (λ (call : CallInput → Bag). HasFormAlone (function_kind (kind_at p.ops n)) p.fields (ports_in InScope)
      (wanted Sets.reads Sets.writes above) above call) (sym (all_called p inputs n))
      (subst (Promises above) (sym found_is) (found_calls above below))
